-- The sets of fields, and the two tests of a function on their names.
use Rattle.std.proofs.Common.{◌≡◌, ℕ, Bool, true, false, cond, not, ◌||◌, Some, None, List, [], ◌∷◌, map, refl, sym, ap, ◌∙◌}
use Rattle.std.specs.List.{AllByRecursion, list_all}
use Rattle.std.specs.List.Sorted.{IsStrictlySortedBy}
use Rattle.tla_value.specs.Tree.{Tree, text, set, trees}
use Rattle.tla_value.specs.Order.{tree_cmp, tree_eq}
use Rattle.tla_value.specs.Sets.{is_member}
use Rattle.tla_value.specs.Funs.{arguments, value_at}
use Rattle.tla_value.specs.FunLaws.{none_below}
use Rattle.tla_value.specs.Choices.{keys_of, if_there, is_each_once}
use Rattle.tla_value.specs.Private.Inner.{keyed}
use Rattle.tla_value.proofs.TreeTests.{and-both, both-and, eq-true, eq-refl, eq-same, not-true}
use Rattle.tla_value.proofs.FunctionMembers.{stand_in, images, same-members}

pub arguments-keyed : (fs : List (List ℕ × List Tree)) → arguments (keyed fs) ≡ keys_of fs
arguments-keyed [] = refl
arguments-keyed (f ∷ fs) = ap (λ us. text f.0 ∷ us) (arguments-keyed fs)

some-same : (a b : Tree) → Some a ≡ Some b → a ≡ b
some-same a b e = cc

-- if all fields fit, so does the one with this name and set
pub field-fits : (qs : List (Tree × Tree)) (fs : List (List ℕ × List Tree)) (k : Tree) (L : List Tree) → value_at k (keyed fs) ≡ Some (set (trees L))
    → list_all (λ (f : List ℕ × List Tree). if_there (value_at (text f.0) qs) f.1) fs ≡ true → if_there (value_at k qs) L ≡ true
field-fits qs [] k L e h = cc
field-fits qs (f ∷ fs) k L e h =
    let both = and-both (if_there (value_at (text f.0) qs) f.1) _ h in
    elim (tree_eq k (text f.0)) as (λ b. tree_eq k (text f.0) ≡ b → cond b (Some (set (trees f.1))) (value_at k (keyed fs)) ≡ Some (set (trees L)) → if_there (value_at k qs) L ≡ true) [
      | true ↦ λ i g.
          let same : f.1 ≡ L = same-members f.1 L (some-same _ _ g) in
          ap (λ o. if_there o L) (ap (λ j. value_at j qs) (eq-true k (text f.0) i)) ∙ ap (if_there (value_at (text f.0) qs)) (sym same) ∙ both.0
      | false ↦ λ i g. field-fits qs fs k L g both.1
    ] refl e

-- each name has its own set
pub own-set : (fs : List (List ℕ × List Tree)) → is_each_once (keys_of fs) ≡ true → AllByRecursion (λ (f : List ℕ × List Tree). value_at (text f.0) (keyed fs) ≡ Some (set (trees f.1))) fs
own-set [] h = tt
own-set (f ∷ fs) h =
    let both = and-both (not (is_member (text f.0) (keys_of fs))) _ h in
    (ap (λ b. cond b (Some (set (trees f.1))) (value_at (text f.0) (keyed fs))) (eq-refl (text f.0)), behind fs (not-true _ both.0) (own-set fs both.1))
  where
    behind : (gs : List (List ℕ × List Tree)) → is_member (text f.0) (keys_of gs) ≡ false → AllByRecursion (λ (g : List ℕ × List Tree). value_at (text g.0) (keyed fs) ≡ Some (set (trees g.1))) gs
        → AllByRecursion (λ (g : List ℕ × List Tree). value_at (text g.0) (keyed (f ∷ fs)) ≡ Some (set (trees g.1))) gs
    behind [] n a = tt
    behind (g ∷ gs) n a = (other (tree_eq (text g.0) (text f.0)) refl, behind gs (or-none (tree_eq (text f.0) (text g.0)) _ n).1 a.1)
      where
        or-none : (x y : Bool) → (x || y) ≡ false → (x ≡ false) × (y ≡ false)
        or-none true y e = cc
        or-none false y e = (refl, e)

        other : (b : Bool) → tree_eq (text g.0) (text f.0) ≡ b → cond (tree_eq (text g.0) (text f.0)) (Some (set (trees f.1))) (value_at (text g.0) (keyed fs)) ≡ Some (set (trees g.1))
        other true e = let no : tree_eq (text f.0) (text g.0) ≡ false = (or-none (tree_eq (text f.0) (text g.0)) _ n).0 in let yes = eq-same (text f.0) (text g.0) (sym (eq-true (text g.0) (text f.0) e)) in cc
        other false e = ap (λ x. cond x (Some (set (trees f.1))) (value_at (text g.0) (keyed fs))) e ∙ a.0

abbrev pub as_sets : List (List Tree) → List Tree
as_sets lists = map (λ (L : List Tree). set (trees L)) lists

-- values that are in their sets by index are in them by lookup
pub stands-at : (qs ps : List (Tree × Tree)) (lists : List (List Tree)) → arguments qs ≡ arguments ps → images ps ≡ as_sets lists → stand_in (images qs) lists ≡ true
    → (k : Tree) (L : List Tree) → value_at k ps ≡ Some (set (trees L)) → if_there (value_at k qs) L ≡ true
stands-at qs [] lists e f h k L g = cc
stands-at [] (p ∷ ps) lists e f h k L g = cc
stands-at (q ∷ qs) (p ∷ ps) [] e f h k L g = cc
stands-at (q ∷ qs) (p ∷ ps) (M ∷ lists) e f h k L g =
    let both = and-both (is_member q.1 M) _ h in
    let heads : q.0 ≡ p.0 = cc in
    let tails : arguments qs ≡ arguments ps = cc in
    let value : p.1 ≡ set (trees M) = cc in
    let values : images ps ≡ as_sets lists = cc in
    elim (tree_eq k p.0) as (λ b. tree_eq k p.0 ≡ b → cond b (Some p.1) (value_at k ps) ≡ Some (set (trees L)) → if_there (cond (tree_eq k q.0) (Some q.1) (value_at k qs)) L ≡ true) [
      | true ↦ λ i j.
          let here : tree_eq k q.0 ≡ true = ap (tree_eq k) heads ∙ i in
          let same : M ≡ L = same-members M L (sym value ∙ some-same _ _ j) in
          ap (λ b. if_there (cond b (Some q.1) (value_at k qs)) L) here ∙ ap (is_member q.1) (sym same) ∙ both.0
      | false ↦ λ i j.
          let there : tree_eq k q.0 ≡ false = ap (tree_eq k) heads ∙ i in
          ap (λ b. if_there (cond b (Some q.1) (value_at k qs)) L) there ∙ stands-at qs ps lists tails values both.1 k L j
    ] refl g

pub some-none : (t : Tree) → None ≡ Some t → ⊥
some-none t e = cc

-- and conversely
pub stands-all : (qs ps : List (Tree × Tree)) (lists : List (List Tree)) → arguments qs ≡ arguments ps → images ps ≡ as_sets lists → IsStrictlySortedBy tree_cmp (arguments ps)
    → ((k : Tree) (L : List Tree) → value_at k ps ≡ Some (set (trees L)) → if_there (value_at k qs) L ≡ true) → stand_in (images qs) lists ≡ true
unfolding IsStrictlySortedBy
stands-all [] [] [] e f h g = refl
stands-all [] [] (M ∷ lists) e f h g = cc
stands-all [] (p ∷ ps) lists e f h g = cc
stands-all (q ∷ qs) [] lists e f h g = cc
stands-all (q ∷ qs) (p ∷ ps) [] e f h g = cc
stands-all (q ∷ qs) (p ∷ ps) (M ∷ lists) e f h g =
    let heads : q.0 ≡ p.0 = cc in
    let tails : arguments qs ≡ arguments ps = cc in
    let value : p.1 ≡ set (trees M) = cc in
    let values : images ps ≡ as_sets lists = cc in
    let here : tree_eq p.0 q.0 ≡ true = eq-same p.0 q.0 (sym heads) in
    let first : if_there (cond (tree_eq p.0 q.0) (Some q.1) (value_at p.0 qs)) M ≡ true = g p.0 M (ap (λ b. cond b (Some p.1) (value_at p.0 ps)) (eq-refl p.0) ∙ ap (λ (t : Tree). Some t) value) in
    both-and (is_member q.1 M) _ (sym (ap (λ b. if_there (cond b (Some q.1) (value_at p.0 qs)) M) here) ∙ first)
    (stands-all qs ps lists tails values h.1 (λ k L j.
    let other : tree_eq k p.0 ≡ false = apart k L j (tree_eq k p.0) refl in
    let there : tree_eq k q.0 ≡ false = ap (tree_eq k) heads ∙ other in
    sym (ap (λ b. if_there (cond b (Some q.1) (value_at k qs)) L) there) ∙ g k L (ap (λ b. cond b (Some p.1) (value_at k ps)) other ∙ j)))
  where
    apart : (k : Tree) (L : List Tree) → value_at k ps ≡ Some (set (trees L)) → (b : Bool) → tree_eq k p.0 ≡ b → b ≡ false
    apart k L j true i = absurd (some-none (set (trees L)) (sym (ap (λ u. value_at u ps) (eq-true k p.0 i) ∙ none_below p.0 ps h.0) ∙ j))
    apart k L j false i = refl
