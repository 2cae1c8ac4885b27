-- A walk over the parts of a nested tuple. Private contracts alone cite this.
use Rattle.std.specs.Prelude.{◌≡◌, ◌≤◌, ◌<◌, ◌+◌, ◌*◌, ◌⊎◌, ℕ, Bool, true, false, List, [], ◌∷◌, ◌++◌, map, length, get_or, Option, Some, nat_eq, Vec}
use Rattle.std.specs.declared.alloc.Global.{Global}
use Rattle.std.specs.Borrow.{Bor}
use Rattle.std.specs.List.{list_any}
use Rattle.tla_core.specs.declared.fault.Place.{Place}
use Rattle.tla_core.specs.Expr.{Expr}
use Rattle.tla_tree.specs.declared.tree.Expr as syntax
use Rattle.tla_tree.specs.Tree.{Tree}
use Rattle.tla_tree.specs.View.{view}
use Rattle.tla_scopes.specs.declared.arena.Entry.{Entry}
use Rattle.tla_expand.specs.declared.cover.PrimedEntry.{PrimedEntry}
use Rattle.tla_expand.specs.declared.cover.Visit.{Visit}
use Rattle.tla_expand.specs.declared.cover.Visit.TheVariants.{Part, End}
use Rattle.tla_expand.specs.declared.cover.Piece.{Piece}
use Rattle.tla_expand.specs.declared.cover.Piece.TheVariants as piece
use Rattle.tla_scopes.specs.declared.nodes.Form.{Form}
use Rattle.tla_scopes.specs.declared.nodes.Form.TheVariants as form
use Rattle.tla_scopes.specs.declared.nodes.ListNode.{ListNode}
use Rattle.tla_scopes.specs.declared.nodes.ListNode.TheVariants as manies
use Rattle.tla_scopes.specs.declared.primes.Primes.{Primes}
use Rattle.tla_scopes.specs.declared.primes.Primes.TheVariants.{Never, Once, Twice}
use Rattle.tla_expand.specs.Covers.{is_names, has_name}
use Rattle.tla_scopes.specs.Expand.{expand}
use Rattle.tla_scopes.specs.Primes.{with_primes}
use Rattle.tla_expand.specs.Private.Gives.{pointed}
use Rattle.tla_scopes.specs.Costs.{cost, costs_at}
use Rattle.tla_scopes.specs.Scopes.{AreLinked, scope_at, meaning_of}

-- each of a list
abbrev pub EachIs : {A : Type 0} → (A → Type 0) → List A → Type 0
EachIs P [] = Unit {0}
EachIs P (x ∷ xs) = P x × EachIs P xs

-- one of a list
abbrev pub IsAmong : {A : Type 0} → A → List A → Type 0
IsAmong x [] = ⊥
IsAmong x (y ∷ ys) = (y ≡ x) ⊎ IsAmong x ys

-- with one more at the end, or as it was
abbrev pub IsAdded : {A : Type 0} → List A → A → List A → Type 0
IsAdded old x new = (new ≡ old) ⊎ (new ≡ old ++ x ∷ [])

-- it is a nested tuple of variables, which are all among these
abbrev pub IsMet : (ℕ → Bool) → Option Expr → Type 0
IsMet m o = (e : Expr) × (o ≡ Some e) × (is_names e ≡ true) × ((i : ℕ) → has_name i e ≡ true → m i ≡ true)

-- it is none
abbrev pub IsNoTuple : Option Expr → Type 0
IsNoTuple o = (e : Expr) → o ≡ Some e → is_names e ≡ false

abbrev pub among : List ℕ → ℕ → Bool
among is i = list_any (nat_eq i) is

-- each of the first n is among these
abbrev pub HasEach : List ℕ → ℕ → Type 0
HasEach is n = (i : ℕ) → i < n → among is i ≡ true

-- what a form under these primes is as part of a nested tuple of variables
abbrev pub piece_of_variable : Primes → ℕ → Piece
piece_of_variable Never i = piece.Variable i
piece_of_variable Once i = piece.Other
piece_of_variable Twice i = piece.Other

abbrev pub piece_of_many : ListNode → Bor (Vec syntax.Expr Global) → Piece
piece_of_many manies.Tuple ts = piece.Tuple ts
piece_of_many f ts = piece.Other

abbrev pub piece_of : Primes → Form → Piece
piece_of k (form.Variable p i) = piece_of_variable k i
piece_of k (form.Many p f ts) = piece_of_many f ts
piece_of k fm = piece.Other

-- what the name of an entry means, wherever it is used
abbrev pub IsVisited : (ℕ → Bool) → List Entry → PrimedEntry → Type 0
IsVisited m es g = (e : Entry) → e ≡ get_or es g.entry e → (p : Place) → IsMet m (with_primes g.primes (meaning_of (scope_at es) e.what p [] 0))

-- a name that is an entry's
abbrev pub IsNamed : List Entry → Tree → ℕ → ℕ → Type 0
IsNamed es t s k = (k < length es) × ((e : Entry) → e ≡ get_or es k e → (p : Place) × ((d : ℕ) → expand t (scope_at es s) d ≡ meaning_of (scope_at es) e.what p [] d))

-- all that is to be looked at is met
abbrev pub AreMet : (ℕ → Bool) → List Entry → List Visit → Type 0
AreMet m es [] = Unit {0}
AreMet m es (Part t s k ∷ ls) = IsMet m (with_primes k (expand (view t.now) (scope_at es s) 0)) × AreMet m es ls
AreMet m es (End g ∷ ls) = AreMet m es ls

-- each entry is met, where what is to be looked at before it is, and what is next
abbrev pub EndsMet : (ℕ → Bool) → List Entry → List Visit → Type 0 → Type 0
EndsMet m es [] n = Unit {0}
EndsMet m es (Part t s k ∷ ls) n = EndsMet m es ls n
EndsMet m es (End g ∷ ls) n = (AreMet m es ls → n → IsVisited m es g) × EndsMet m es ls n

abbrev pub IsInside : List Entry → Visit → Type 0
IsInside es (Part t s k) = s ≤ length es
IsInside es (End g) = g.entry < length es

-- expressions in a scope with these primes, as visits
abbrev pub parts_at : List (Bor syntax.Expr) → ℕ → Primes → List Visit
parts_at bs s k = map (λ (b : Bor syntax.Expr). Part b s k) bs

-- these expressions, after the visits that remained
abbrev pub ArePushed : List Visit → List syntax.Expr → ℕ → Primes → List Visit → Type 0
ArePushed old ts s k new = (bs : List (Bor syntax.Expr)) × (pointed bs ≡ ts) × (new ≡ old ++ parts_at bs s k)

-- A walk over the parts of a whole. What is left ends with what is next; what is looked at just now is next to it.
-- The whole is met where all of that is; and where it is a nested tuple of variables, so is all of that and was met.
pub record IsWalkBy (whole : Option Expr) (es : List Entry) (remaining : List Visit) (visited : List PrimedEntry) (found : List ℕ) (next : (ℕ → Bool) → Type 0) : Type 0 where
  pub linked : AreLinked es
  pub inside : EachIs (IsInside es) remaining
  pub known : EachIs (λ (g : PrimedEntry). g.entry < length es) visited
  pub passed : EachIs (IsVisited (among found) es) visited
  pub whole_met : (m : ℕ → Bool) → EachIs (λ i. m i ≡ true) found → AreMet m es remaining → next m → IsMet m whole
  pub ends_met : (m : ℕ → Bool) → EachIs (λ i. m i ≡ true) found → EndsMet m es remaining (next m)
  pub parts : (e : Expr) → whole ≡ Some e → is_names e ≡ true → AreMet (λ i. has_name i e) es remaining × next (λ i. has_name i e) × EachIs (λ i. has_name i e ≡ true) found

-- a walk between two steps
abbrev pub IsWalk : Option Expr → List Entry → List Visit → List PrimedEntry → List ℕ → Type 0
IsWalk whole es remaining visited found = IsWalkBy whole es remaining visited found (λ m. Unit {0})

-- a walk that looks at this
abbrev pub IsWalkTo : Option Expr → List Entry → List Visit → List PrimedEntry → List ℕ → Option Expr → Type 0
IsWalkTo whole es remaining visited found o = IsWalkBy whole es remaining visited found (λ m. IsMet m o)

-- the result of a step of a walk: a walk that continues, or the whole is no nested tuple of variables
abbrev pub GoesOn : Option Expr → List Entry → List Visit → List PrimedEntry → List ℕ → Bool → Type 0
GoesOn whole es remaining visited found true = IsWalk whole es remaining visited found
GoesOn whole es remaining visited found false = IsNoTuple whole

-- what remains to be done at most for a visit: each reduction may lead to a visit and to a mark, and a tuple to its
-- items
abbrev pub weight : List Entry → Visit → ℕ
weight es (Part t s k) = 3 * cost (view t.now) (costs_at es s) + 2
weight es (End g) = 1

abbrev pub weights : List Entry → List Visit → ℕ
weights es [] = 0
weights es (v ∷ vs) = weight es v + weights es vs

-- a step of a walk after which at most n remains
abbrev pub IsLeft : List Entry → List Visit → ℕ → Bool → Type 0
IsLeft es remaining n true = weights es remaining ≤ n
IsLeft es remaining n false = Unit {0}
