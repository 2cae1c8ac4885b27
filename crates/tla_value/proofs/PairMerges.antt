-- Pairs merged from two lists that rise by argument: the part merged so far, and the rest of each.
use Rattle.std.proofs.Common.{◌≡◌, ◌⊎◌, true, false, cond, Some, List, [], ◌∷◌, ◌++◌, append_assoc, append-nil, refl, sym, ap, ◌∙◌, subst, inl, inr, Less, Equal, Greater}
use Rattle.std.specs.List.{AllByRecursion}
use Rattle.std.specs.List.Sorted.{IsStrictlySortedBy}
use Rattle.std.specs.Ordering.{ordering_reverse}
use Rattle.std.specs.Cmp.{tied_itself}
use Rattle.tla_value.specs.Tree.{Tree}
use Rattle.tla_value.specs.Order.{tree_cmp, tree_eq}
use Rattle.tla_value.specs.OrderLaws.{tree_cmp-total, exact-tree}
use Rattle.tla_value.specs.Rising.{above}
use Rattle.tla_value.specs.Funs.{arguments, value_at, fun_of}
use Rattle.tla_value.specs.FunLaws.{Pair, is-fun_of, swapped}
use Rattle.tla_value.proofs.TreeTests.{eq-true}
use Rattle.tla_value.proofs.Merges.{rises_on, rises_between}

-- the conditions of the merge, for the rest of either side
pub record IsPairMerge (m left right whole : List Pair) : Type 0 where
  pub rising_left : IsStrictlySortedBy tree_cmp (arguments m ++ arguments left)
  pub rising_right : IsStrictlySortedBy tree_cmp (arguments m ++ arguments right)
  pub same : (q : Tree) → value_at q (m ++ (left ++ right)) ≡ value_at q whole

arguments-append : (xs ys : List Pair) → arguments (xs ++ ys) ≡ arguments xs ++ arguments ys
arguments-append [] ys = refl
arguments-append (x ∷ xs) ys = ap (λ ts. x.0 ∷ ts) (arguments-append xs ys)

-- lookup in a concatenation
same_behind : (q : Tree) (m us vs : List Pair) → value_at q us ≡ value_at q vs → value_at q (m ++ us) ≡ value_at q (m ++ vs)
same_behind q [] us vs e = e
same_behind q (p ∷ m) us vs e = ap (cond (tree_eq q p.0) (Some p.1)) (same_behind q m us vs e)

-- of two arguments, one below the other, at most one is the argument looked up
apart : (q a b : Tree) → tree_cmp b a ≡ Less → tree_eq q a ≡ true → tree_eq q b ≡ true → ⊥
apart q a b h i j =
    let e : q ≡ a = eq-true q a i in
    let f : q ≡ b = eq-true q b j in
    let g : tree_cmp q q ≡ Less = subst (λ (t : Tree). tree_cmp t q ≡ Less) (sym f) (subst (λ (t : Tree). tree_cmp b t ≡ Less) (sym e) h) in
    let itself : tree_cmp q q ≡ Equal = tied_itself tree_cmp-total q in
    cc

-- a pair whose argument is below those of some others may come before them or after
moved : (q : Tree) (y : Pair) (left ys : List Pair) → AllByRecursion (λ t. tree_cmp y.0 t ≡ Less) (arguments left) → value_at q (y ∷ (left ++ ys)) ≡ value_at q (left ++ (y ∷ ys))
moved q y [] ys h = refl
moved q y (x ∷ left) ys h =
    swapped (tree_eq q x.0) (tree_eq q y.0) (λ i j. apart q x.0 y.0 h.0 i j) x.1 y.1 (value_at q (left ++ ys))
    ∙ ap (cond (tree_eq q x.0) (Some x.1)) (moved q y left ys h.1)

-- of two pairs with the same argument, lookup ignores the second
hidden : (q : Tree) (x y : Pair) (xs ys : List Pair) → x.0 ≡ y.0 → value_at q (x ∷ (xs ++ ys)) ≡ value_at q (x ∷ (xs ++ (y ∷ ys)))
hidden q x y xs ys e =
    elim (tree_eq q x.0) as (λ b. tree_eq q x.0 ≡ b → cond b (Some x.1) (value_at q (xs ++ ys)) ≡ cond b (Some x.1) (value_at q (xs ++ (y ∷ ys)))) [
      | true ↦ λ i. refl
      | false ↦ λ i. same_behind q xs ys (y ∷ ys) (sym (ap (λ b. cond b (Some y.1) (value_at q ys)) (ap (tree_eq q) (sym e) ∙ i)))
    ] refl

one_on : (m xs : List Pair) (x : Pair) → (m ++ x ∷ []) ++ xs ≡ m ++ x ∷ xs
one_on m xs x = append_assoc m (x ∷ []) xs

arguments_on : (m new : List Pair) (x : Pair) → new ≡ m ++ x ∷ [] → arguments new ≡ arguments m ++ x.0 ∷ []
arguments_on m new x n = ap arguments n ∙ arguments-append m (x ∷ [])

pub takes_left : (m xs ys whole new left right : List Pair) (x y : Pair) → left ≡ x ∷ xs → right ≡ y ∷ ys → new ≡ m ++ x ∷ [] → tree_cmp x.0 y.0 ≡ Less → IsPairMerge m left right whole → IsPairMerge new xs right whole
takes_left m xs ys whole new left right x y l r n e h = record {
  rising_left = rises_on (arguments m) (arguments xs) x.0 (arguments new) (arguments left) (ap arguments l) (arguments_on m new x n) h.rising_left;
  rising_right = rises_between (arguments m) (arguments xs) (arguments ys) x.0 y.0 (arguments new) (arguments left) (arguments right) (ap arguments l) (ap arguments r) (arguments_on m new x n) e h.rising_left h.rising_right;
  same = λ q. ap (λ us. value_at q (us ++ (xs ++ right))) n ∙ ap (value_at q) (one_on m (xs ++ right) x) ∙ ap (λ us. value_at q (m ++ (us ++ right))) (sym l) ∙ h.same q;
}

pub takes_both : (m xs ys whole new left right : List Pair) (x y : Pair) → left ≡ x ∷ xs → right ≡ y ∷ ys → new ≡ m ++ x ∷ [] → tree_cmp x.0 y.0 ≡ Equal → IsPairMerge m left right whole → IsPairMerge new xs ys whole
takes_both m xs ys whole new left right x y l r n e h = record {
  rising_left = rises_on (arguments m) (arguments xs) x.0 (arguments new) (arguments left) (ap arguments l) (arguments_on m new x n) h.rising_left;
  rising_right = rises_on (arguments m) (arguments ys) x.0 (arguments new) (arguments right) (ap arguments r ∙ ap (λ t. t ∷ arguments ys) (sym keys)) (arguments_on m new x n) h.rising_right;
  same = λ q. ap (λ us. value_at q (us ++ (xs ++ ys))) n ∙ ap (value_at q) (one_on m (xs ++ ys) x) ∙ same_behind q m (x ∷ (xs ++ ys)) (x ∷ (xs ++ (y ∷ ys))) (hidden q x y xs ys keys) ∙ ap (λ us. value_at q (m ++ (us ++ (y ∷ ys)))) (sym l) ∙ ap (λ us. value_at q (m ++ (left ++ us))) (sym r) ∙ h.same q;
}
  where
    keys : x.0 ≡ y.0
    keys = exact-tree x.0 y.0 e

-- an argument below the first of the rest is below all of the rest
all_above : (m xs : List Tree) (x y : Tree) → IsStrictlySortedBy tree_cmp (m ++ x ∷ xs) → tree_cmp y x ≡ Less → AllByRecursion (λ t. tree_cmp y t ≡ Less) (x ∷ xs)
unfolding IsStrictlySortedBy
all_above [] xs x y h e = (e, above tree_cmp-total y x xs e h.0)
all_above (a ∷ m) xs x y h e = all_above m xs x y h.1 e

pub takes_right : (m xs ys whole new left right : List Pair) (x y : Pair) → left ≡ x ∷ xs → right ≡ y ∷ ys → new ≡ m ++ y ∷ [] → tree_cmp x.0 y.0 ≡ Greater → IsPairMerge m left right whole → IsPairMerge new left ys whole
takes_right m xs ys whole new left right x y l r n e h = record {
  rising_left = rises_between (arguments m) (arguments ys) (arguments xs) y.0 x.0 (arguments new) (arguments right) (arguments left) (ap arguments r) (ap arguments l) (arguments_on m new y n) below h.rising_right h.rising_left;
  rising_right = rises_on (arguments m) (arguments ys) y.0 (arguments new) (arguments right) (ap arguments r) (arguments_on m new y n) h.rising_right;
  same = λ q. ap (λ us. value_at q (us ++ (left ++ ys))) n ∙ ap (value_at q) (one_on m (left ++ ys) y) ∙ same_behind q m (y ∷ (left ++ ys)) (left ++ (y ∷ ys)) (moved q y left ys higher) ∙ ap (λ us. value_at q (m ++ (left ++ us))) (sym r) ∙ h.same q;
}
  where
    below : tree_cmp y.0 x.0 ≡ Less
    below = tree_cmp-total.antisymm y.0 x.0 ∙ ap ordering_reverse e

    higher : AllByRecursion (λ t. tree_cmp y.0 t ≡ Less) (arguments left)
    higher =
        let rising : IsStrictlySortedBy tree_cmp (arguments m ++ x.0 ∷ arguments xs) = subst (λ (us : List Pair). IsStrictlySortedBy tree_cmp (arguments m ++ arguments us)) l h.rising_left in
        subst (λ (us : List Pair). AllByRecursion (λ t. tree_cmp y.0 t ≡ Less) (arguments us)) (sym l) (all_above (arguments m) (arguments xs) x.0 y.0 rising below)

-- if the rest of one side is empty, the rest of the other comes last
pub ends : (m left right whole : List Pair) → (left ≡ []) ⊎ (right ≡ []) → IsPairMerge m left right whole → (m ++ left) ++ right ≡ fun_of whole
ends m left right whole (inl e) h =
    ap (λ us. (m ++ us) ++ right) e ∙ ap (λ us. us ++ right) (append-nil m)
    ∙ is-fun_of (m ++ right) whole (subst (IsStrictlySortedBy tree_cmp) (sym (arguments-append m right)) h.rising_right) (λ q. ap (λ us. value_at q (m ++ (us ++ right))) (sym e) ∙ h.same q)
ends m left right whole (inr e) h =
    ap (λ us. (m ++ left) ++ us) e ∙ append-nil (m ++ left)
    ∙ is-fun_of (m ++ left) whole (subst (IsStrictlySortedBy tree_cmp) (sym (arguments-append m left)) h.rising_left) (λ q. ap (λ us. value_at q (m ++ us)) (sym (append-nil left)) ∙ ap (λ us. value_at q (m ++ (left ++ us))) (sym e) ∙ h.same q)
