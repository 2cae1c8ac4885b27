-- The meanings of names, the binders and the nodes that name what exists.
use Rattle.std.proofs.Common.{◌≡◌, ℕ, suc, pos, ◌+◌, ◌≤◌, Bool, true, false, if◌then◌else◌, List, [], ◌∷◌, length, refl, sym, ◌∙◌, arith, Option, Some, None}
use Rattle.std.proofs.lemmas.Bool.{lt-ltb}
use Rattle.std.specs.Prelude.{nat_lt}
use Rattle.std.specs.Str.{bytes_eq}
use Rattle.std.specs.List.{list_all}
use Rattle.tla_value.specs.Tree as value
use Rattle.tla_core.specs.declared.fault.Place.{Place}
use Rattle.tla_core.specs.ExprOf.{unary_of, kind_of}
use Rattle.tla_core.specs.Expr as x
use Rattle.tla_core.specs.Expr.{Expr, Exprs, constant, bound, now, unary, binary, opened, tried, kind_set, sequences}
use Rattle.tla_core.specs.Fits.{fits, fits_all, fits_fields, fits_arms, fits_updates, count}
use Rattle.tla_tree.specs.declared.word.Written.{Written}
use Rattle.tla_tree.specs.declared.tree.Constant.{Constant}
use Rattle.tla_tree.specs.declared.tree.Constant.TheVariants.{True, False, Boolean, String}
use Rattle.tla_tree.specs.declared.tree.Prefix.{Prefix}
use Rattle.tla_tree.specs.declared.tree.Prefix.TheVariants as prefix
use Rattle.tla_tree.specs.Tree.{Pattern, Each, Tuple}
use Rattle.tla_scopes.specs.declared.nodes.Builtin.{Builtin}
use Rattle.tla_scopes.specs.declared.nodes.Builtin.TheVariants as builtin
use Rattle.tla_scopes.specs.declared.nodes.Binding.{Binding}
use Rattle.tla_scopes.specs.declared.nodes.Binding.TheVariants as binds
use Rattle.tla_scopes.specs.declared.nodes.UnaryNode.{UnaryNode}
use Rattle.tla_scopes.specs.declared.nodes.UnaryNode.TheVariants as ones
use Rattle.tla_scopes.specs.declared.nodes.Gather.{Gather}
use Rattle.tla_scopes.specs.declared.nodes.Gather.TheVariants as gathers
use Rattle.tla_scopes.specs.declared.nodes.BinaryNode.{BinaryNode}
use Rattle.tla_scopes.specs.declared.nodes.BinaryNode.TheVariants as w
use Rattle.tla_scopes.specs.declared.nodes.TernaryNode.{TernaryNode}
use Rattle.tla_scopes.specs.declared.nodes.TernaryNode.TheVariants as h
use Rattle.tla_scopes.specs.declared.primes.Primes.TheVariants.{Once}
use Rattle.tla_scopes.specs.Maybe.{◌>>=◌, each_of}
use Rattle.tla_scopes.specs.Places as names
use Rattle.tla_scopes.specs.Lists.{exprs}
use Rattle.tla_scopes.specs.Primes.{primes}
use Rattle.tla_scopes.specs.Unchanged.{changed}
use Rattle.tla_scopes.specs.Nodes.{constant_of, one, two, three, binding, gather}
use Rattle.tla_scopes.specs.Operators.{prefix_for}
use Rattle.tla_scopes.specs.Library.{library}
use Rattle.tla_scopes.specs.Meanings.{Argument, Meaning, Scope, with_name, unknown, alone, of_one, of_two, of_three, bound_name, variable, parameter, builtin_meaning, meaning_or, standard, with_parameters, operator}
use Rattle.tla_core.specs.declared.expression.Opening.{Opening}
use Rattle.tla_core.specs.Patterns.{items_in}
use Rattle.tla_scopes.specs.Bound.{Names, named, tupled, Bind, bind_each, bind_entry, under, with_each, opening, nested, with_elements, with_items, openings, under_openings, set_for, gathered}
use Rattle.tla_scopes.specs.Expand.{applied, prefixed}
use Rattle.tla_expand.specs.Fits.{FitsArgument, FitArguments, FitsMeaning, FitsScope}
use Rattle.tla_expand.proofs.PrimesFit.{inv, primes_fit}
use Rattle.tla_expand.proofs.UnchangedFits.{unchanged_fits}

pub some : (d v : ℕ) (x e : Expr) → Some x ≡ Some e → fits x d v true ≡ true → fits e d v true ≡ true
some d v x e q k = let same : x ≡ e = cc in rw (sym same) k

pub some_each : (d v : ℕ) (x e : Exprs) → Some x ≡ Some e → fits_all x d v true ≡ true → fits_all e d v true ≡ true
some_each d v x e q k = let same : x ≡ e = cc in rw (sym same) k

pub two_fits : (f : BinaryNode) (p : Place) (x y : Expr) (d v : ℕ) → fits x d v true ≡ true → fits y d v true ≡ true → fits (two f p x y) d v true ≡ true
two_fits (w.Binary b) p x y d v i j = rw (i, j) refl
two_fits w.Apply p x y d v i j = rw (i, j) refl
two_fits w.Equal p x y d v i j = rw (i, j) refl
two_fits w.Implies p x y d v i j = rw (i, j) refl
two_fits w.And p x y d v i j = rw (i, j) refl
two_fits w.Or p x y d v i j = rw (i, j) refl
two_fits w.Member p x y d v i j = rw (i, j) refl
two_fits w.NotMember p x y d v i j = rw (i, j) refl
two_fits w.Subset p x y d v i j = rw (i, j) refl
two_fits w.Cup p x y d v i j = rw (i, j) refl
two_fits w.Cap p x y d v i j = rw (i, j) refl
two_fits w.Minus p x y d v i j = rw (i, j) refl
two_fits w.Assert p x y d v i j = rw (i, j) refl
two_fits w.Functions p x y d v i j = rw (i, j) refl

pub three_fits : (f : TernaryNode) (p : Place) (x y z : Expr) (d v : ℕ) → fits x d v true ≡ true → fits y d v true ≡ true → fits z d v true ≡ true → fits (three f p x y z) d v true ≡ true
three_fits h.If p x y z d v i j k = rw (i, j, k) refl
three_fits h.SubSeq p x y z d v i j k = rw (i, j, k) refl

binding_fits : (f : Binding) (p : Place) (s x : Expr) (d v : ℕ) → fits s d v true ≡ true → fits x (d + 1) v true ≡ true → fits (binding f p s x) d v true ≡ true
binding_fits binds.ForAll p s x d v i j = rw (i, j) refl
binding_fits binds.ForSome p s x d v i j = rw (i, j) refl
binding_fits binds.Choose p s x d v i j = rw (i, j) refl
binding_fits binds.Filter p s x d v i j = rw (i, j) refl

later_meaning : (v b c : ℕ) (m : Meaning) → b ≤ c → FitsMeaning v b m → FitsMeaning v c m
later_meaning v b c m k g p args d l = g p args d (omega arith)

pub later : (v b c : ℕ) (σ : Scope) → b ≤ c → FitsScope v b σ → FitsScope v c σ
later v b c σ k g x = later_meaning v b c (σ x) k (g x)

either_fits : (v b : ℕ) (same : Bool) (m n : Meaning) → FitsMeaning v b m → FitsMeaning v b n → FitsMeaning v b (if same then m else n)
either_fits v b true m n i j = i
either_fits v b false m n i j = j

pub name_fits : (v b : ℕ) (x : names.Name) (m : Meaning) (σ : Scope) → FitsMeaning v b m → FitsScope v b σ → FitsScope v b (with_name x m σ)
name_fits v b x m σ i g y = either_fits v b (bytes_eq x y) m (σ y) i (g y)

unknown_fits : (v b : ℕ) → FitsMeaning v b unknown
unknown_fits v b p args d k r e q = cc

pub alone_fits : (v b : ℕ) (f : Place → ℕ → Option Expr) → ((p : Place) (d : ℕ) → b ≤ d → (e : Expr) → f p d ≡ Some e → fits e d v true ≡ true) → FitsMeaning v b (alone f)
alone_fits v b f k p [] d l r e q = k p d l e q
alone_fits v b f k p (a ∷ args) d l r e q = cc

bound_fits : (v b i : ℕ) → i + 1 ≤ b → FitsMeaning v b (bound_name i)
bound_fits v b i k = alone_fits v b (λ p d. Some (bound p i)) (λ p d l e q. some d v (bound p i) e q (lt-ltb i d (omega arith)))

pub variable_fits : (v b i : ℕ) → nat_lt i v ≡ true → FitsMeaning v b (variable i)
variable_fits v b i k = alone_fits v b (λ p d. Some (now p i)) (λ p d l e q. some d v (now p i) e q k)

of_one_fits : (v b : ℕ) (f : Place → Expr → Expr) → ((p : Place) (x : Expr) (d : ℕ) → fits x d v true ≡ true → fits (f p x) d v true ≡ true) → FitsMeaning v b (of_one f)
of_one_fits v b f k p [] d l r e q = cc
of_one_fits v b f k p (a ∷ []) d l r e q =
    let i = inv (a d) (λ x. Some (f p x)) e q in
    some d v (f p i.0) e i.2 (k p i.0 d (r.0 d (omega arith) i.0 i.1))
of_one_fits v b f k p (a ∷ c ∷ args) d l r e q = cc

of_two_fits : (v b : ℕ) (f : Place → Expr → Expr → Expr) → ((p : Place) (x y : Expr) (d : ℕ) → fits x d v true ≡ true → fits y d v true ≡ true → fits (f p x y) d v true ≡ true)
    → FitsMeaning v b (of_two f)
of_two_fits v b f k p [] d l r e q = cc
of_two_fits v b f k p (a ∷ []) d l r e q = cc
of_two_fits v b f k p (a ∷ c ∷ []) d l r e q =
    let i = inv (a d) (λ x. c d >>= λ y. Some (f p x y)) e q in
    let j = inv (c d) (λ y. Some (f p i.0 y)) e i.2 in
    some d v (f p i.0 j.0) e j.2 (k p i.0 j.0 d (r.0 d (omega arith) i.0 i.1) (r.1.0 d (omega arith) j.0 j.1))
of_two_fits v b f k p (a ∷ c ∷ g ∷ args) d l r e q = cc

of_three_fits : (v b : ℕ) (f : Place → Expr → Expr → Expr → Expr)
    → ((p : Place) (x y z : Expr) (d : ℕ) → fits x d v true ≡ true → fits y d v true ≡ true → fits z d v true ≡ true → fits (f p x y z) d v true ≡ true)
    → FitsMeaning v b (of_three f)
of_three_fits v b f k p [] d l r e q = cc
of_three_fits v b f k p (a ∷ []) d l r e q = cc
of_three_fits v b f k p (a ∷ c ∷ []) d l r e q = cc
of_three_fits v b f k p (a ∷ c ∷ g ∷ []) d l r e q =
    let i = inv (a d) (λ x. c d >>= λ y. g d >>= λ z. Some (f p x y z)) e q in
    let j = inv (c d) (λ y. g d >>= λ z. Some (f p i.0 y z)) e i.2 in
    let m = inv (g d) (λ z. Some (f p i.0 j.0 z)) e j.2 in
    some d v (f p i.0 j.0 m.0) e m.2 (k p i.0 j.0 m.0 d (r.0 d (omega arith) i.0 i.1) (r.1.0 d (omega arith) j.0 j.1) (r.1.1.0 d (omega arith) m.0 m.1))
of_three_fits v b f k p (a ∷ c ∷ g ∷ n ∷ args) d l r e q = cc

builtin_fits : (v b : ℕ) (u : Builtin) → FitsMeaning v b (builtin_meaning u)
builtin_fits v b (builtin.Kinds k) = alone_fits v b (λ p d. Some (kind_set p (kind_of k))) (λ p d l e q. some d v (kind_set p (kind_of k)) e q refl)
builtin_fits v b builtin.Sequences = of_one_fits v b (λ p x. sequences p x) (λ p x d i. i)
builtin_fits v b (builtin.One u) = of_one_fits v b (λ p x. unary p (unary_of u) x) (λ p x d i. i)
builtin_fits v b (builtin.Two f) = of_two_fits v b (two f) (λ p x y d i j. two_fits f p x y d v i j)
builtin_fits v b (builtin.Three f) = of_three_fits v b (three f) (λ p x y z d i j k. three_fits f p x y z d v i j k)

meaning_fits : (v b : ℕ) (o : Option Builtin) → FitsMeaning v b (meaning_or o)
meaning_fits v b None = unknown_fits v b
meaning_fits v b (Some u) = builtin_fits v b u

-- the operators of the modules name nothing
pub standard_fits : (v b : ℕ) → FitsScope v b standard
standard_fits v b x = meaning_fits v b (library x)

-- what is expanded in each scope that fits
abbrev BodyFits : ℕ → (Scope → Argument) → Type 0
BodyFits v body = (τ : Scope) (d : ℕ) → FitsScope v d τ → (e : Expr) → body τ d ≡ Some e → fits e d v true ≡ true

parameters_fit : (v d : ℕ) (ws : List Written) (args : List Argument) (σ : Scope) → FitArguments v d args → FitsScope v d σ → (body : Scope → Argument) → BodyFits v body
    → (e : Expr) → (with_parameters ws args σ >>= λ τ. body τ d) ≡ Some e → fits e d v true ≡ true
parameters_fit v d [] [] σ r g body k e q = k σ d g e q
parameters_fit v d [] (a ∷ args) σ r g body k e q = cc
parameters_fit v d (x ∷ xs) [] σ r g body k e q = cc
parameters_fit v d (x ∷ xs) (a ∷ args) σ r g body k e q =
    parameters_fit v d xs args (with_name x.word (parameter a) σ) r.1 (name_fits v d x.word (parameter a) σ (alone_fits v d (λ p c. a c) (λ p c. r.0 c)) g) body k e q

pub operator_fits : (v b : ℕ) (ws : List Written) (body : Scope → Argument) (σ : Scope) → FitsScope v b σ → BodyFits v body → FitsMeaning v b (operator ws body σ)
operator_fits v b ws body σ g k p args d l r = parameters_fit v d ws args σ r (later v b d σ l g) body k

-- the sets of bound names
abbrev pub FitBinds : ℕ → ℕ → List Bind → Type 0
FitBinds v b [] = Unit {0}
FitBinds v b (n ∷ bs) = FitsArgument v b n.1 × FitBinds v b bs

pub later_binds : (v b c : ℕ) (bs : List Bind) → b ≤ c → FitBinds v b bs → FitBinds v c bs
later_binds v b c [] k g = tt
later_binds v b c (n ∷ bs) k g = ((λ d l. g.0 d (omega arith)), later_binds v b c bs k g.1)

pub under_name : (v d : ℕ) (x : names.Name) (σ : Scope) → FitsScope v d σ → FitsScope v (d + 1) (with_name x (bound_name d) σ)
under_name v d x σ g = name_fits v (d + 1) x (bound_name d) σ (bound_fits v (d + 1) d (omega arith)) (later v d (d + 1) σ (omega arith) g)

-- names that are numbered from one on
each_named : (v : ℕ) (ws : List Written) (d : ℕ) (σ : Scope) → FitsScope v d σ → FitsScope v (d + length ws) (with_each ws d σ)
each_named v [] d σ g = let z : d + 0 ≡ d = omega arith in rw z g
each_named v (w ∷ ws) d σ g =
    let z : d + suc (length ws) ≡ d + 1 + length ws = omega arith in
    rw z (each_named v ws (d + 1) (with_name w.word (bound_name d) σ) (under_name v d w.word σ g))

-- the elements that are opened are bound
openings_bound : (bs : List Bind) (d n : ℕ) → d + length bs ≤ n → list_all (λ (o : Opening). nat_lt o.name n) (openings bs d) ≡ true
openings_bound [] d n l = refl
openings_bound ((named x, s) ∷ bs) d n l = openings_bound bs (d + 1) n (omega (arith, l))
openings_bound ((tupled ws, s) ∷ bs) d n l =
    let is : nat_lt d n ≡ true = lt-ltb d n (omega (arith, l)) in
    rw (is, openings_bound bs (d + 1) n (omega (arith, l))) refl

openings_fit : (p : Place) (os : List Opening) (o : Option Expr) (n v : ℕ) → list_all (λ (x : Opening). nat_lt x.name n) os ≡ true → ((e : Expr) → o ≡ Some e → fits e (n + items_in os) v true ≡ true)
    → (e : Expr) → under_openings p os o ≡ Some e → fits e n v true ≡ true
openings_fit p [] o n v h k e q = let z : n + 0 ≡ n = omega arith in rw z at (k e q)
openings_fit p (x ∷ os) o n v h k e q =
    let i = inv o (λ y. Some (opened p (x ∷ os) y)) e q in
    some n v (opened p (x ∷ os) i.0) e i.2 (rw (h, k i.0 i.1) refl)

under_fits : (p : Place) (n : Names) (body : Scope → Argument) (v : ℕ) (σ : Scope) (d : ℕ) → FitsScope v d σ → ((τ : Scope) (c : ℕ) → d + 1 ≤ c → FitsScope v c τ → (e : Expr) → body τ c ≡ Some e → fits e c v true ≡ true)
    → (e : Expr) → under p n body σ d ≡ Some e → fits e (d + 1) v true ≡ true
under_fits p (named x) body v σ d g k e q = k (with_name x (bound_name d) σ) (d + 1) (omega arith) (under_name v d x σ g) e q
under_fits p (tupled ws) body v σ d g k e q =
    let is : nat_lt d (d + 1) ≡ true = lt-ltb d (d + 1) (omega arith) in
    let z : d + 1 + (length ws + 0) ≡ d + 1 + length ws = omega arith in
    let τ = with_each ws (d + 1) σ in
    let fit = each_named v ws (d + 1) σ (later v d (d + 1) σ (omega arith) g) in
    openings_fit p (opening d ws ∷ []) (body τ (d + 1 + length ws)) (d + 1) v (rw is refl) (λ y h. rw z (k τ (d + 1 + length ws) (omega arith) fit y h)) e q

pub nested_fits : (f : Binding) (p : Place) (bs : List Bind) (body : Scope → Argument) (v : ℕ) → BodyFits v body → (b : ℕ) → FitBinds v b bs → (σ : Scope) (d : ℕ) → FitsScope v d σ → b ≤ d
    → (e : Expr) → nested f p bs body σ d ≡ Some e → fits e d v true ≡ true
nested_fits f p [] body v k b r σ d g l e q = cc
nested_fits f p (n ∷ []) body v k b r σ d g l e q =
    let i = inv (n.1 d) (λ x. under p n.0 body σ d >>= λ y. Some (binding f p x y)) e q in
    let j = inv (under p n.0 body σ d) (λ y. Some (binding f p i.0 y)) e i.2 in
    some d v (binding f p i.0 j.0) e j.2 (binding_fits f p i.0 j.0 d v (r.0 d l i.0 i.1) (under_fits p n.0 body v σ d g (λ τ c m h y w. k τ c h y w) j.0 j.1))
nested_fits f p (n ∷ m ∷ bs) body v k b r σ d g l e q =
    let i = inv (n.1 d) (λ x. under p n.0 (nested f p (m ∷ bs) body) σ d >>= λ y. Some (binding f p x y)) e q in
    let j = inv (under p n.0 (nested f p (m ∷ bs) body) σ d) (λ y. Some (binding f p i.0 y)) e i.2 in
    let inner = under_fits p n.0 (nested f p (m ∷ bs) body) v σ d g (λ τ c u h y w. nested_fits f p (m ∷ bs) body v k b r.1 τ c h (omega (arith, l, u)) y w) j.0 j.1 in
    some d v (binding f p i.0 j.0) e j.2 (binding_fits f p i.0 j.0 d v (r.0 d l i.0 i.1) inner)

pub number_fits : (p : Place) (n d v : ℕ) (small : Bool) (e : Expr) → (if small then Some (constant p (value.int (pos n))) else None) ≡ Some e → fits e d v true ≡ true
number_fits p n d v true e q = some d v (constant p (value.int (pos n))) e q refl
number_fits p n d v false e q = cc

pub word_fits : (p : Place) (c : Constant) (d v : ℕ) → fits (constant_of p c) d v true ≡ true
word_fits p True d v = refl
word_fits p False d v = refl
word_fits p Boolean d v = refl
word_fits p String d v = refl

one_fits : (f : UnaryNode) (p : Place) (x : Expr) (d v : ℕ) → fits x d v true ≡ true → fits (one f p x) d v true ≡ true
one_fits (ones.Unary u) p x d v i = i
one_fits ones.Power p x d v i = i
one_fits ones.Sequences p x d v i = i
one_fits (ones.Field w) p x d v i = i

applied_fits : (f : Option UnaryNode) (p : Place) (x : Expr) (d v : ℕ) → fits x d v true ≡ true → (e : Expr) → applied f p x ≡ Some e → fits e d v true ≡ true
applied_fits None p x d v i e q = cc
applied_fits (Some f) p x d v i e q = some d v (one f p x) e q (one_fits f p x d v i)

pub prefixed_fits : (op : Prefix) (p : Place) (x : Expr) (d v : ℕ) → fits x d v true ≡ true → (e : Expr) → prefixed op p x ≡ Some e → fits e d v true ≡ true
prefixed_fits prefix.Unchanged p x d v i e q = unchanged_fits p x d v e q ∙ i
prefixed_fits prefix.Not p x d v i e q = applied_fits (prefix_for prefix.Not) p x d v i e q
prefixed_fits prefix.Negate p x d v i e q = applied_fits (prefix_for prefix.Negate) p x d v i e q
prefixed_fits prefix.Always p x d v i e q = applied_fits (prefix_for prefix.Always) p x d v i e q
prefixed_fits prefix.Eventually p x d v i e q = applied_fits (prefix_for prefix.Eventually) p x d v i e q
prefixed_fits prefix.Subset p x d v i e q = applied_fits (prefix_for prefix.Subset) p x d v i e q
prefixed_fits prefix.Union p x d v i e q = applied_fits (prefix_for prefix.Union) p x d v i e q
prefixed_fits prefix.Domain p x d v i e q = applied_fits (prefix_for prefix.Domain) p x d v i e q

pub some_fields : (d v : ℕ) (x e : x.Fields) → Some x ≡ Some e → fits_fields x d v true ≡ true → fits_fields e d v true ≡ true
some_fields d v x e q k = let same : x ≡ e = cc in rw (sym same) k

pub some_updates : (d v : ℕ) (x e : x.Updates) → Some x ≡ Some e → fits_updates x d v true ≡ true → fits_updates e d v true ≡ true
some_updates d v x e q k = let same : x ≡ e = cc in rw (sym same) k

pub changed_fits : (p : Place) (x : Expr) (d v : ℕ) → fits x d v true ≡ true → (e : Expr) → changed p x ≡ Some e → fits e d v true ≡ true
changed_fits p u d v i e q =
    let j = inv (primes Once u) (λ y. Some (binary p x.Unequal y u)) e q in
    some d v (binary p x.Unequal j.0 u) e j.2 (rw (primes_fit Once v v true refl u d j.0 j.1, i) refl)

-- elements that have names, and then the names of items
elements_fit : (v : ℕ) (bs : List Bind) (d : ℕ) (σ : Scope) → FitsScope v d σ → FitsScope v (d + length bs) (with_elements bs d σ)
elements_fit v [] d σ g = let z : d + 0 ≡ d = omega arith in rw z g
elements_fit v ((named x, s) ∷ bs) d σ g =
    let z : d + suc (length bs) ≡ d + 1 + length bs = omega arith in
    rw z (elements_fit v bs (d + 1) (with_name x (bound_name d) σ) (under_name v d x σ g))
elements_fit v ((tupled ws, s) ∷ bs) d σ g =
    let z : d + suc (length bs) ≡ d + 1 + length bs = omega arith in
    rw z (elements_fit v bs (d + 1) σ (later v d (d + 1) σ (omega arith) g))

items_fit : (v : ℕ) (bs : List Bind) (c d : ℕ) (σ : Scope) → FitsScope v d σ → FitsScope v (d + items_in (openings bs c)) (with_items bs d σ)
items_fit v [] c d σ g = let z : d + 0 ≡ d = omega arith in rw z g
items_fit v ((named x, s) ∷ bs) c d σ g = items_fit v bs (c + 1) d σ g
items_fit v ((tupled ws, s) ∷ bs) c d σ g =
    let n = items_in (openings bs (c + 1)) in
    let z : d + (length ws + n) ≡ d + length ws + n = omega arith in
    rw z (items_fit v bs (c + 1) (d + length ws) (with_each ws d σ) (each_named v ws d σ g))

set_fits : (p : Place) (n : Names) (o : Option Expr) (d v : ℕ) → ((e : Expr) → o ≡ Some e → fits e d v true ≡ true) → (e : Expr) → set_for p n o ≡ Some e → fits e d v true ≡ true
set_fits p (named x) o d v h e q = h e q
set_fits p (tupled ws) o d v h e q =
    let i = inv o (λ x. Some (tried p (length ws) x)) e q in
    some d v (tried p (length ws) i.0) e i.2 (h i.0 i.1)

sets_fit : (p : Place) (v d : ℕ) (bs : List Bind) → FitBinds v d bs → (xs : List Expr) → each_of (λ (b : Bind). set_for p b.0 (b.1 d)) bs ≡ Some xs → (fits_all (exprs xs) d v true ≡ true) × (count (exprs xs) ≡ length bs)
sets_fit p v d [] r xs q = let same : [] ≡ xs = cc in rw (← same) (refl, refl)
sets_fit p v d (b ∷ bs) r xs q =
    let i = inv (set_for p b.0 (b.1 d)) (λ x. each_of (λ (b : Bind). set_for p b.0 (b.1 d)) bs >>= λ ys. Some (x ∷ ys)) xs q in
    let j = inv (each_of (λ (b : Bind). set_for p b.0 (b.1 d)) bs) (λ ys. Some (i.0 ∷ ys)) xs i.2 in
    let same : i.0 ∷ j.0 ≡ xs = cc in
    let rest = sets_fit p v d bs r.1 j.0 j.1 in
    rw (← same) (rw (set_fits p b.0 (b.1 d) d v (λ e h. r.0 d (omega arith) e h) i.0 i.1) rest.0, omega (arith, rest.1))

gather_fits : (f : Gather) (p : Place) (xs : Exprs) (y : Expr) (d v n : ℕ) → count xs ≡ n → fits_all xs d v true ≡ true → fits y (d + n) v true ≡ true → fits (gather f p xs y) d v true ≡ true
gather_fits gathers.Image p xs y d v n c i j = rw (c, i, j) refl
gather_fits gathers.Function p xs y d v n c i j = rw (c, i, j) refl

pub gathered_fits : (f : Gather) (p : Place) (bs : List Bind) (body : Scope → Argument) (v : ℕ) → BodyFits v body → (σ : Scope) (d : ℕ) → FitsScope v d σ → FitBinds v d bs
    → (e : Expr) → gathered f p bs body σ d ≡ Some e → fits e d v true ≡ true
gathered_fits f p bs body v k σ d g r e q =
    let os = openings bs d in
    let τ = with_items bs (d + length bs) (with_elements bs d σ) in
    let c = d + length bs + items_in os in
    let i = inv (each_of (λ (b : Bind). set_for p b.0 (b.1 d)) bs) (λ xs. under_openings p os (body τ c) >>= λ y. Some (gather f p (exprs xs) y)) e q in
    let j = inv (under_openings p os (body τ c)) (λ y. Some (gather f p (exprs i.0) y)) e i.2 in
    let s = sets_fit p v d bs r i.0 i.1 in
    let fit = items_fit v bs d (d + length bs) (with_elements bs d σ) (elements_fit v bs d σ g) in
    let inner = openings_fit p os (body τ c) (d + length bs) v (openings_bound bs d (d + length bs) (omega arith)) (λ y h. k τ c fit y h) j.0 j.1 in
    some d v (gather f p (exprs i.0) j.0) e j.2 (gather_fits f p (exprs i.0) j.0 d v (length bs) s.1 s.0 inner)

-- the arms that end a CASE
abbrev pub FitLast : ℕ → ℕ → Option x.Arms → Type 0
FitLast v d last = (xs : x.Arms) → last ≡ Some xs → fits_arms xs d v true ≡ true

pub some_arms : (d v : ℕ) (x e : x.Arms) → Some x ≡ Some e → fits_arms x d v true ≡ true → fits_arms e d v true ≡ true
some_arms d v x e q k = let same : x ≡ e = cc in rw (sym same) k

bind_each_fits : (ws : List Written) (s : Argument) (rest : List Bind) (v d : ℕ) → FitsArgument v d s → FitBinds v d rest → FitBinds v d (bind_each ws s rest)
bind_each_fits [] s rest v d i j = j
bind_each_fits (w ∷ ws) s rest v d i j = (i, bind_each_fits ws s rest v d i j)

pub entry_fits : (w : Pattern) (s : Argument) (rest : List Bind) (v d : ℕ) → FitsArgument v d s → FitBinds v d rest → FitBinds v d (bind_entry w s rest)
entry_fits (Each ws) s rest v d i j = bind_each_fits ws s rest v d i j
entry_fits (Tuple ws) s rest v d i j = (i, j)
