-- What the visits of a walk over a nested tuple say: what was met, what remains, and more entries.
use Rattle.std.proofs.Common.{◌≡◌, ◌≤◌, ◌<◌, ◌⊎◌, inl, inr, ℕ, zero, suc, Bool, true, false, List, [], ◌∷◌, ◌++◌, map, length, get_or, refl, sym, ap, ◌∙◌, arith, Option, Some, None}
use Rattle.std.specs.Prelude.{nat_eq, ◌||◌, IfOk, IfSome, Result, Ok, Err}
use Rattle.std.specs.List.{list_any}
use Rattle.std.proofs.lemmas.Bool.{eqb-true, eq-eqb}
use Rattle.std.proofs.Math.ListN.{get_or-append}
use Rattle.indexmap.specs.IndexSet.{insert_key}
use Rattle.tla_core.specs.declared.fault.Place.{Place}
use Rattle.tla_core.specs.Expr.{Expr, now, next, bound, constant, kind_set}
use Rattle.tla_core.specs.ExprOf.{kind_of}
use Rattle.tla_value.specs.TreeOf.{tree_of}
use Rattle.tla_tree.specs.declared.tree.Expr as syntax
use Rattle.tla_tree.specs.declared.tree.Expr.TheVariants as variants
use Rattle.tla_tree.specs.declared.word.Written.{Written}
use Rattle.tla_tree.specs.Tree.{Tree, binders}
use Rattle.tla_tree.specs.View.{view, group_view}
use Rattle.tla_scopes.specs.declared.arena.Entry.{Entry}
use Rattle.tla_scopes.specs.declared.failure.Failure.{Failure}
use Rattle.tla_scopes.specs.Places.{Name, place_of}
use Rattle.tla_scopes.specs.declared.arena.What.{What}
use Rattle.tla_scopes.specs.declared.arena.What.TheVariants.{Bound, Variable, Value, Argument, Definition, Function, Gives, Module, Unknown}
use Rattle.tla_expand.specs.declared.cover.PrimedEntry.{PrimedEntry}
use Rattle.tla_expand.specs.declared.cover.Visit.{Visit}
use Rattle.tla_expand.specs.declared.cover.Visit.TheVariants.{Part, End}
use Rattle.tla_scopes.specs.declared.nodes.Builtin.TheVariants as builtin
use Rattle.tla_scopes.specs.declared.nodes.Gather.TheVariants as gathers
use Rattle.tla_scopes.specs.declared.primes.Primes.{Primes}
use Rattle.tla_scopes.specs.declared.primes.Primes.TheVariants.{Never, Once, Twice}
use Rattle.tla_scopes.specs.Bound.{gathered}
use Rattle.tla_expand.specs.Covers.{is_names, has_name}
use Rattle.tla_scopes.specs.Expand.{expand, binds_of}
use Rattle.tla_scopes.specs.Meanings.{Scope, Meaning, parameter, operator}
use Rattle.tla_scopes.specs.Primes.{with_primes, primed_now}
use Rattle.tla_expand.specs.Private.Walks.{EachIs, IsAmong, IsAdded, IsMet, among, IsVisited, IsNamed, AreMet, EndsMet, IsInside, IsWalkTo}
use Rattle.tla_scopes.specs.Scopes.{AreLinked, Extends, IsBelow, scope_at, meaning_of}
use Rattle.tla_scopes.proofs.Binds.{extends_length, scope_extends}
use Rattle.tla_scopes.proofs.Links.{below_at}

-- ---- lists
pub each_append : {A : Type 0} (P : A → Type 0) (xs ys : List A) → EachIs P xs → EachIs P ys → EachIs P (xs ++ ys)
each_append P [] ys h k = k
each_append P (x ∷ xs) ys h k = (h.0, each_append P xs ys h.1 k)

pub each_front : {A : Type 0} (P : A → Type 0) (xs ys : List A) → EachIs P (xs ++ ys) → EachIs P xs
each_front P [] ys h = tt
each_front P (x ∷ xs) ys h = (h.0, each_front P xs ys h.1)

pub each_back : {A : Type 0} (P : A → Type 0) (xs ys : List A) → EachIs P (xs ++ ys) → EachIs P ys
each_back P [] ys h = h
each_back P (x ∷ xs) ys h = each_back P xs ys h.1

pub each_weaker : {A : Type 0} (P Q : A → Type 0) (xs : List A) → ((x : A) → P x → Q x) → EachIs P xs → EachIs Q xs
each_weaker P Q [] f h = tt
each_weaker P Q (x ∷ xs) f h = (f x h.0, each_weaker P Q xs f h.1)

pub each_added : {A : Type 0} (P : A → Type 0) (old : List A) (x : A) (new : List A) → IsAdded old x new → EachIs P old → P x → EachIs P new
each_added P old x new (inl q) h p = rw q h
each_added P old x new (inr q) h p = rw q (each_append P old (x ∷ []) h (p, tt))

pub each_among : {A : Type 0} (P : A → Type 0) (xs : List A) (x : A) → EachIs P xs → IsAmong x xs → P x
each_among P [] x h a = absurd a
each_among P (y ∷ ys) x h (inl q) = rw (sym q) h.0
each_among P (y ∷ ys) x h (inr a) = each_among P ys x h.1 a

-- ---- numbers of variables
more_sure : (i j : ℕ) (b c : Bool) → nat_eq i j ≡ b → (b || c) ≡ true → (i ≡ j) ⊎ (c ≡ true)
more_sure i j true c q h = inl (eqb-true i j q)
more_sure i j false c q h = inr h

-- those that these are among hold what each of these does
pub among_sure : (m : ℕ → Bool) (is : List ℕ) → EachIs (λ i. m i ≡ true) is → (i : ℕ) → among is i ≡ true → m i ≡ true
among_sure m [] h i a = let z : false ≡ true = a in cc
among_sure m (j ∷ is) h i a =
    elim (more_sure i j (nat_eq i j) (among is i) refl a) [
      | inl q ↦ rw q h.0
      | inr r ↦ among_sure m is h.1 i r
    ]

or_later : (a b : Bool) → b ≡ true → (a || b) ≡ true
or_later true b h = refl
or_later false b h = h

among_first : (i : ℕ) (is : List ℕ) → among (i ∷ is) i ≡ true
among_first i is = rw (eq-eqb i i refl) refl

-- each of these is among these
sure_more : (is js : List ℕ) → ((i : ℕ) → among is i ≡ true → among js i ≡ true) → EachIs (λ i. among js i ≡ true) is
sure_more [] js f = tt
sure_more (i ∷ is) js f = (f i (among_first i is), sure_more is js (λ j h. f j (or_later (nat_eq j i) (among is j) h)))

pub sure_among : (is : List ℕ) → EachIs (λ i. among is i ≡ true) is
sure_among is = sure_more is is (λ i h. h)

among_append : (is js : List ℕ) (i : ℕ) → among is i ≡ true → among (is ++ js) i ≡ true
among_append [] js i h = let z : false ≡ true = h in cc
among_append (j ∷ is) js i h =
    elim (more_sure i j (nat_eq i j) (among is i) refl h) [
      | inl q ↦ rw (eq-eqb i j q) refl
      | inr r ↦ or_later (nat_eq i j) (among (is ++ js) i) (among_append is js i r)
    ]

-- a variable that is noted
module _ (old : List ℕ) (i : ℕ) where
  pub noted_more : (b : Bool) → among old i ≡ b → (j : ℕ) → among old j ≡ true → among (insert_key nat_eq old i) j ≡ true
  noted_more true q j h = rw q h
  noted_more false q j h = rw q (among_append old (i ∷ []) j h)

  pub noted_before : (P : ℕ → Type 0) (b : Bool) → among old i ≡ b → EachIs P (insert_key nat_eq old i) → EachIs P old
  noted_before P true q h = rw q at h
  noted_before P false q h = each_front P old (i ∷ []) (rw q at h)

  pub noted_sure : (m : ℕ → Bool) (b : Bool) → among old i ≡ b → EachIs (λ j. m j ≡ true) (insert_key nat_eq old i) → m i ≡ true
  noted_sure m true q h = among_sure m old (rw q at h) i q
  noted_sure m false q h = (each_back (λ j. m j ≡ true) old (i ∷ []) (rw q at h)).0

  pub noted_each : (P : ℕ → Type 0) (b : Bool) → among old i ≡ b → EachIs P old → P i → EachIs P (insert_key nat_eq old i)
  noted_each P true q h p = rw q h
  noted_each P false q h p = rw q (each_append P old (i ∷ []) h (p, tt))

-- ---- what is met
pub met_more : (m n : ℕ → Bool) (o : Option Expr) → ((i : ℕ) → m i ≡ true → n i ≡ true) → IsMet m o → IsMet n o
met_more m n o f h = (h.0, h.1, h.2, λ i q. f i (h.3 i q))

pub gone_more : (m n : ℕ → Bool) (es : List Entry) (g : PrimedEntry) → ((i : ℕ) → m i ≡ true → n i ≡ true) → IsVisited m es g → IsVisited n es g
gone_more m n es g f h = λ e q p. met_more m n (with_primes g.primes (meaning_of (scope_at es) e.what p [] 0)) f (h e q p)

none_not_met : (m : ℕ → Bool) → IsMet m None → ⊥
none_not_met m h = let u : None ≡ Some h.0 = h.1 in cc

other_not_met : (m : ℕ → Bool) (e : Expr) → is_names e ≡ false → IsMet m (Some e) → ⊥
other_not_met m e n h =
    let w : e ≡ h.0 = cc in
    let z : false ≡ true = sym n ∙ ap is_names w ∙ h.2 in
    cc

-- a variable at one place and at another
now_elsewhere : (m : ℕ → Bool) (k : Primes) (p q : Place) (i : ℕ) → IsMet m (primed_now k p i) → IsMet m (primed_now k q i)
now_elsewhere m Never p q i h = let w : now p i ≡ h.0 = cc in (now q i, refl, refl, λ j r. h.3 j (rw (sym w) r))
now_elsewhere m Once p q i h = absurd (other_not_met m (next p i) refl h)
now_elsewhere m Twice p q i h = absurd (none_not_met m h)

-- what a name stands for, at one place and at another
elsewhere : (m : ℕ → Bool) (k : Primes) (at : ℕ → Scope) (w : What) (p q : Place) → IsMet m (with_primes k (meaning_of at w p [] 0)) → IsMet m (with_primes k (meaning_of at w q [] 0))
elsewhere m k at (Bound i) p q h = absurd (other_not_met m (bound p i) refl h)
elsewhere m k at (Variable i) p q h = now_elsewhere m k p q i h
elsewhere m k at (Value v) p q h = absurd (other_not_met m (constant p (tree_of v.now)) refl h)
elsewhere m k at (Argument t s) p q h = h
elsewhere m k at (Definition ws body home) p q h = h
elsewhere m k at (Function f bs body home) p q h = h
elsewhere m k at (Gives n g) p q h = h
elsewhere m k at (Module (builtin.Kinds t)) p q h = absurd (other_not_met m (kind_set p (kind_of t)) refl h)
elsewhere m k at (Module builtin.Sequences) p q h = absurd (none_not_met m h)
elsewhere m k at (Module (builtin.One u)) p q h = absurd (none_not_met m h)
elsewhere m k at (Module (builtin.Two f)) p q h = absurd (none_not_met m h)
elsewhere m k at (Module (builtin.Three f)) p q h = absurd (none_not_met m h)
elsewhere m k at Unknown p q h = absurd (none_not_met m h)

entry_at : (es : List Entry) (k : ℕ) → k < length es → (e : Entry) × (e ≡ get_or es k e)
entry_at [] k h = absurd (omega arith)
entry_at (e ∷ es) zero h = (e, refl)
entry_at (e ∷ es) (suc k) h = entry_at es k (omega arith)

-- a name of an entry is met where the entry is
module _ (m : ℕ → Bool) (es : List Entry) (t : Tree) (s : ℕ) (g : PrimedEntry) (n : IsNamed es t s g.entry) where
  pub name_met : IsVisited m es g → IsMet m (with_primes g.primes (expand t (scope_at es s) 0))
  name_met h =
      let e = entry_at es g.entry n.0 in
      let u = n.1 e.0 e.1 in
      rw (u.1 0) (h e.0 e.1 u.0)

  pub name_visited : IsMet m (with_primes g.primes (expand t (scope_at es s) 0)) → IsVisited m es g
  name_visited h = λ e q p. let u = n.1 e q in elsewhere m g.primes (scope_at es) e.what u.0 p (rw (u.1 0) at h)

-- ---- what is left
pub are_met_append : (m : ℕ → Bool) (es : List Entry) (ls ks : List Visit) → AreMet m es ls → AreMet m es ks → AreMet m es (ls ++ ks)
are_met_append m es [] ks h k = k
are_met_append m es (Part t s j ∷ ls) ks h k = (h.0, are_met_append m es ls ks h.1 k)
are_met_append m es (End g ∷ ls) ks h k = are_met_append m es ls ks h k

pub are_met_front : (m : ℕ → Bool) (es : List Entry) (ls ks : List Visit) → AreMet m es (ls ++ ks) → AreMet m es ls
are_met_front m es [] ks h = tt
are_met_front m es (Part t s j ∷ ls) ks h = (h.0, are_met_front m es ls ks h.1)
are_met_front m es (End g ∷ ls) ks h = are_met_front m es ls ks h

pub are_met_back : (m : ℕ → Bool) (es : List Entry) (ls ks : List Visit) → AreMet m es (ls ++ ks) → AreMet m es ks
are_met_back m es [] ks h = h
are_met_back m es (Part t s j ∷ ls) ks h = are_met_back m es ls ks h.1
are_met_back m es (End g ∷ ls) ks h = are_met_back m es ls ks h

pub ends_append : (m : ℕ → Bool) (es : List Entry) (ls ks : List Visit) (n o : Type 0) → (AreMet m es ks → o → n) → EndsMet m es ls n → EndsMet m es ks o → EndsMet m es (ls ++ ks) o
ends_append m es [] ks n o f h k = k
ends_append m es (Part t s j ∷ ls) ks n o f h k = ends_append m es ls ks n o f h k
ends_append m es (End g ∷ ls) ks n o f h k = (λ a u. h.0 (are_met_front m es ls ks a) (f (are_met_back m es ls ks a) u), ends_append m es ls ks n o f h.1 k)

pub ends_front : (m : ℕ → Bool) (es : List Entry) (ls ks : List Visit) (n o : Type 0) → (n → AreMet m es ks × o) → EndsMet m es (ls ++ ks) o → EndsMet m es ls n
ends_front m es [] ks n o f h = tt
ends_front m es (Part t s j ∷ ls) ks n o f h = ends_front m es ls ks n o f h
ends_front m es (End g ∷ ls) ks n o f h = (λ a u. let r = f u in h.0 (are_met_append m es ls ks a r.0) r.1, ends_front m es ls ks n o f h.1)

pub ends_back : (m : ℕ → Bool) (es : List Entry) (ls ks : List Visit) (o : Type 0) → EndsMet m es (ls ++ ks) o → EndsMet m es ks o
ends_back m es [] ks o h = h
ends_back m es (Part t s j ∷ ls) ks o h = ends_back m es ls ks o h
ends_back m es (End g ∷ ls) ks o h = ends_back m es ls ks o h.1

pub ends_weaker : (m : ℕ → Bool) (es : List Entry) (ls : List Visit) (n o : Type 0) → (o → n) → EndsMet m es ls n → EndsMet m es ls o
ends_weaker m es [] n o f h = tt
ends_weaker m es (Part t s j ∷ ls) n o f h = ends_weaker m es ls n o f h
ends_weaker m es (End g ∷ ls) n o f h = (λ a u. h.0 a (f u), ends_weaker m es ls n o f h.1)

-- ---- more entries
meaning_grown : (at other : ℕ → Scope) (n : ℕ) (w : What) (rest : ℕ) → ((r : ℕ) → r ≤ n → at r ≡ other r) → IsBelow n w rest → meaning_of at w ≡ meaning_of other w
meaning_grown at other n (Bound i) rest h b = refl
meaning_grown at other n (Variable i) rest h b = refl
meaning_grown at other n (Value v) rest h b = refl
meaning_grown at other n (Function p bs body home) rest h b =
    ap (λ (σ : Scope). parameter (gathered gathers.Function p (binds_of (binders (map group_view bs.now.items)) σ) (expand (view body.now)) σ)) (h home b.0)
meaning_grown at other n Unknown rest h b = refl
meaning_grown at other n (Argument t s) rest h b = ap (λ (σ : Scope). parameter (expand (view t.now) σ)) (h s b.0)
meaning_grown at other n (Definition xs body home) rest h b = ap (λ (σ : Scope). operator xs.now (expand (view body.now)) σ) (h home b.0)
meaning_grown at other n (Gives k g) rest h b = refl
meaning_grown at other n (Module k) rest h b = refl

module _ (es new : List Entry) (x : Extends new es) where
  inside_grown : (ls : List Visit) → EachIs (IsInside es) ls → EachIs (IsInside new) ls
  inside_grown [] i = tt
  inside_grown (Part t s k ∷ ls) i = let n = extends_length es new x in (omega (arith, i.0), inside_grown ls i.1)
  inside_grown (End g ∷ ls) i = let n = extends_length es new x in (omega (arith, i.0), inside_grown ls i.1)

  known_grown : (gs : List PrimedEntry) → EachIs (λ (g : PrimedEntry). g.entry < length es) gs → EachIs (λ (g : PrimedEntry). g.entry < length new) gs
  known_grown [] k = tt
  known_grown (g ∷ gs) k = let n = extends_length es new x in (omega (arith, k.0), known_grown gs k.1)

  are_met_grown : (m : ℕ → Bool) (ls : List Visit) → EachIs (IsInside es) ls → AreMet m es ls → AreMet m new ls
  are_met_grown m [] i h = tt
  are_met_grown m (Part t s k ∷ ls) i h = (rw (scope_extends es new s x i.0) h.0, are_met_grown m ls i.1 h.1)
  are_met_grown m (End g ∷ ls) i h = are_met_grown m ls i.1 h

  are_met_shrunk : (m : ℕ → Bool) (ls : List Visit) → EachIs (IsInside es) ls → AreMet m new ls → AreMet m es ls
  are_met_shrunk m [] i h = tt
  are_met_shrunk m (Part t s k ∷ ls) i h = (rw (sym (scope_extends es new s x i.0)) h.0, are_met_shrunk m ls i.1 h.1)
  are_met_shrunk m (End g ∷ ls) i h = are_met_shrunk m ls i.1 h

  module _ (l : AreLinked es) where
    gone_grown : (m : ℕ → Bool) (g : PrimedEntry) → g.entry < length es → IsVisited m es g → IsVisited m new g
    gone_grown m g b h = λ e q p.
        let r : e ≡ get_or es g.entry e = q ∙ ap (λ (us : List Entry). get_or us g.entry e) x.1 ∙ get_or-append es x.0 e g.entry b in
        let same : meaning_of (scope_at new) e.what ≡ meaning_of (scope_at es) e.what = meaning_grown (scope_at new) (scope_at es) g.entry e.what e.rest (λ s k. scope_extends es new s x (omega arith)) (below_at es g.entry e l b r) in
        rw same (h e r p)

    passed_grown : (m : ℕ → Bool) (gs : List PrimedEntry) → EachIs (λ (g : PrimedEntry). g.entry < length es) gs → EachIs (IsVisited m es) gs → EachIs (IsVisited m new) gs
    passed_grown m [] k h = tt
    passed_grown m (g ∷ gs) k h = (gone_grown m g k.0 h.0, passed_grown m gs k.1 h.1)

    ends_grown : (m : ℕ → Bool) (ls : List Visit) (n : Type 0) → EachIs (IsInside es) ls → EndsMet m es ls n → EndsMet m new ls n
    ends_grown m [] n i h = tt
    ends_grown m (Part t s k ∷ ls) n i h = ends_grown m ls n i.1 h
    ends_grown m (End g ∷ ls) n i h = (λ a u. gone_grown m g i.0 (h.0 (are_met_shrunk m ls i.1 a) u), ends_grown m ls n i.1 h.1)

    pub walk_grown : (whole o : Option Expr) (remaining : List Visit) (visited : List PrimedEntry) (found : List ℕ) → AreLinked new → IsWalkTo whole es remaining visited found o → IsWalkTo whole new remaining visited found o
    walk_grown whole o remaining visited found linked w = record {
      linked = linked;
      inside = inside_grown remaining w.inside;
      known = known_grown visited w.known;
      passed = passed_grown (among found) visited w.known w.passed;
      whole_met = λ m u a n. w.whole_met m u (are_met_shrunk m remaining w.inside a) n;
      ends_met = λ m u. ends_grown m remaining (IsMet m o) w.inside (w.ends_met m u);
      parts = λ e q t. let p = w.parts e q t in (are_met_grown (λ i. has_name i e) remaining w.inside p.0, p.1, p.2);
    }

-- ---- what a call answers
pub goes_by : (r : Result Bool Failure) (g : Option Expr → Bool → Type 0) (P Q : Option Expr → Type 0) → IfOk r (λ b. (whole : Option Expr) → P whole → g whole b)
    → ((whole : Option Expr) → Q whole → P whole) → IfOk r (λ b. (whole : Option Expr) → Q whole → g whole b)
goes_by (Ok b) g P Q h f = λ whole q. h whole (f whole q)
goes_by (Err e) g P Q h f = tt

-- the entry of a name
pub named_is : (es : List Entry) (t : syntax.Expr) (s : ℕ) (w : Written) (x : Name) (r : Option ℕ) → t ≡ variants.Name w → x ≡ w.word
    → IfSome r (λ k. (e : Entry) → e ≡ get_or es k e → scope_at es s x ≡ meaning_of (scope_at es) e.what) → IfSome r (λ k. k < length es) → IfSome r (λ k. IsNamed es (view t) s k)
named_is es t s w x None q n f h = tt
named_is es t s w x (Some k) q n f h = (h, λ e g. (place_of w.place, λ d. rw (q, sym n) (ap (λ (m : Meaning). m (place_of w.place) [] d) (f e g))))

-- an entry with as many primes
pub same_gone : (x y : PrimedEntry) → y.entry ≡ x.entry → y.primes ≡ x.primes → y ≡ x
same_gone x y a b = ap (λ (n : ℕ). visited n y.primes) a ∙ ap (λ (k : Primes). visited x.entry k) b
  where
    visited : ℕ → Primes → PrimedEntry
    visited n k = record { entry = n; primes = k }

first_or_later : (a b : Bool) → (a || b) ≡ true → (a ≡ true) ⊎ (b ≡ true)
first_or_later true b h = inl refl
first_or_later false b h = inr h

-- what a test finds that only this passes
pub among_found : {A : Type 0} (test : A → Bool) (x : A) → ((y : A) → test y ≡ true → y ≡ x) → (xs : List A) → list_any test xs ≡ true → IsAmong x xs
among_found test x f [] h = let z : false ≡ true = h in cc
among_found test x f (y ∷ ys) h =
    elim (first_or_later (test y) (list_any test ys) h) [
      | inl q ↦ inl (f y q)
      | inr q ↦ inr (among_found test x f ys q)
    ]
