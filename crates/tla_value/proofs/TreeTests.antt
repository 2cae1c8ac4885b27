-- What true and false tests of trees mean, alone and over a list.
use Rattle.std.proofs.Common.{◌≡◌, ◌⊎◌, Bool, true, false, cond, not, ◌&&◌, ◌||◌, List, [], ◌∷◌, filter, refl, sym, ap, subst, ◌∙◌, inl, inr, ⊎_elim}
use Rattle.std.specs.Ordering.{is_eq}
use Rattle.std.specs.List.{list_any, flat_map}
use Rattle.std.specs.Cmp.{Equal-is, tied_itself}
use Rattle.std.proofs.lemmas.List.Folds.{list_any-append}
use Rattle.tla_value.specs.Tree.{Tree}
use Rattle.tla_value.specs.Order.{tree_cmp, tree_eq}
use Rattle.tla_value.specs.OrderLaws.{tree_cmp-total, exact-tree}
use Rattle.tla_value.specs.Sets.{is_member}

pub bool-iff : (a b : Bool) → (a ≡ true → b ≡ true) → (b ≡ true → a ≡ true) → a ≡ b
bool-iff true b h j = sym (h refl)
bool-iff false true h j = j refl
bool-iff false false h j = refl

pub and-both : (a b : Bool) → (a && b) ≡ true → (a ≡ true) × (b ≡ true)
and-both true b h = (refl, h)
and-both false b h = cc

pub both-and : (a b : Bool) → a ≡ true → b ≡ true → (a && b) ≡ true
both-and true b h j = j
both-and false b h j = cc

pub or-cases : (a b : Bool) → (a || b) ≡ true → (a ≡ true) ⊎ (b ≡ true)
or-cases true b h = inl refl
or-cases false b h = inr h

pub or-first : (a b : Bool) → a ≡ true → (a || b) ≡ true
or-first true b h = refl
or-first false b h = cc

pub or-second : (a b : Bool) → b ≡ true → (a || b) ≡ true
or-second true b h = refl
or-second false b h = h

pub and-false : (b : Bool) → (b && false) ≡ false
and-false true = refl
and-false false = refl

pub or-none : (a b : Bool) → (a || b) ≡ false → (a ≡ false) × (b ≡ false)
or-none true b e = cc
or-none false b e = (refl, e)

pub none-or : (a b : Bool) → a ≡ false → b ≡ false → (a || b) ≡ false
none-or true b e f = cc
none-or false b e f = f

pub not-true : (b : Bool) → not b ≡ true → b ≡ false
not-true true h = cc
not-true false h = refl

pub eq-true : (a b : Tree) → tree_eq a b ≡ true → a ≡ b
eq-true a b h = exact-tree a b ((Equal-is (tree_cmp a b)).0 h)

pub eq-refl : (a : Tree) → tree_eq a a ≡ true
eq-refl a = ap is_eq (tied_itself tree_cmp-total a)

pub eq-same : (a b : Tree) → a ≡ b → tree_eq a b ≡ true
eq-same a b e = subst (λ (x : Tree). tree_eq a x ≡ true) e (eq-refl a)

pub differ : (t u : Tree) → (t ≡ u → ⊥) → tree_eq t u ≡ false
differ t u h = elim (tree_eq t u) as (λ b. tree_eq t u ≡ b → b ≡ false) [
  | true ↦ λ e. absurd (h (eq-true t u e))
  | false ↦ λ e. refl
] refl

pub any-flat_map : {A B : Type 0} (f : A → List B) (test : B → Bool) (xs : List A) → list_any test (flat_map f xs) ≡ list_any (λ x. list_any test (f x)) xs
any-flat_map f test [] = refl
any-flat_map f test (x ∷ xs) = list_any-append test (f x) (flat_map f xs) ∙ ap (λ b. list_any test (f x) || b) (any-flat_map f test xs)

pub member-found : (test : Tree → Bool) (xs : List Tree) → list_any test xs ≡ true → (x : Tree) × (test x ≡ true) × (is_member x xs ≡ true)
member-found test [] h = cc
member-found test (x ∷ xs) h =
    ⊎_elim
    (λ e. (x, e, or-first (tree_eq x x) _ (eq-refl x)))
    (λ e. let r = member-found test xs e in (r.0, r.1, or-second (tree_eq r.0 x) _ r.2))
    (or-cases (test x) _ h)

pub member-any : (test : Tree → Bool) (x : Tree) (xs : List Tree) → is_member x xs ≡ true → test x ≡ true → list_any test xs ≡ true
member-any test x [] h e = cc
member-any test x (y ∷ ys) h e =
    ⊎_elim
    (λ f. or-first (test y) _ (sym (ap test (eq-true x y f)) ∙ e))
    (λ f. or-second (test y) _ (member-any test x ys f e))
    (or-cases (tree_eq x y) _ h)

filter-step : (test : Tree → Bool) (v x : Tree) (xs : List Tree) → is_member v (filter test xs) ≡ (is_member v xs && test v) → (e : Bool) → tree_eq v x ≡ e → (b : Bool) → test x ≡ b → is_member v (cond b (x ∷ filter test xs) (filter test xs)) ≡ ((e || is_member v xs) && test v)
filter-step test v x xs ih true e true f = or-first (tree_eq v x) _ e ∙ sym (ap test (eq-true v x e) ∙ f)
filter-step test v x xs ih true e false f = ih ∙ ap (λ b. is_member v xs && b) (ap test (eq-true v x e) ∙ f) ∙ and-false (is_member v xs) ∙ sym (ap test (eq-true v x e) ∙ f)
filter-step test v x xs ih false e true f = rw e ih
filter-step test v x xs ih false e false f = ih

pub member-filter : (test : Tree → Bool) (v : Tree) (xs : List Tree) → is_member v (filter test xs) ≡ (is_member v xs && test v)
member-filter test v [] = refl
member-filter test v (x ∷ xs) = filter-step test v x xs (member-filter test v xs) (tree_eq v x) refl (test x) refl
