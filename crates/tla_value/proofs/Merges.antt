-- A list merged from two rising lists: the part merged so far, and the rest of each.
use Rattle.std.proofs.Common.{◌≡◌, ◌⊎◌, Bool, true, false, ◌||◌, List, [], ◌∷◌, ◌++◌, append_assoc, append-nil, refl, sym, ap, ◌∙◌, subst, inl, inr, Less, Equal, Greater}
use Rattle.std.specs.List.{AllByRecursion}
use Rattle.std.specs.List.Sorted.{IsStrictlySortedBy}
use Rattle.std.specs.Ordering.{ordering_reverse}
use Rattle.std.proofs.lemmas.List.Folds.{list_any-append}
use Rattle.tla_value.specs.Tree.{Tree}
use Rattle.tla_value.specs.Order.{tree_cmp, tree_eq}
use Rattle.tla_value.specs.OrderLaws.{tree_cmp-total, exact-tree}
use Rattle.tla_value.specs.Rising.{above}
use Rattle.tla_value.specs.Sets.{is_member, set_of}
use Rattle.tla_value.specs.SetLaws.{is-set_of}

all-between : (P : Tree → Type 0) (m xs ys : List Tree) (x : Tree) → AllByRecursion P (m ++ x ∷ xs) → AllByRecursion P (m ++ ys) → AllByRecursion P (m ++ x ∷ ys)
all-between P [] xs ys x h j = (h.0, j)
all-between P (a ∷ m) xs ys x h j = (h.0, all-between P m xs ys x h.1 j.1)

-- an item below all of the second list, between the merged part and that list
between : (m xs ys : List Tree) (x y : Tree) → IsStrictlySortedBy tree_cmp (m ++ x ∷ xs) → IsStrictlySortedBy tree_cmp (m ++ y ∷ ys) → tree_cmp x y ≡ Less
    → IsStrictlySortedBy tree_cmp (m ++ x ∷ (y ∷ ys))
unfolding IsStrictlySortedBy
between [] xs ys x y h j e = ((e, above tree_cmp-total x y ys e j.0), j)
between (a ∷ m) xs ys x y h j e = (all-between (λ t. tree_cmp a t ≡ Less) m xs (y ∷ ys) x h.0 j.0, between m xs ys x y h.1 j.1 e)

-- the two conditions of the merge, for the rest of either side
pub record IsMerge (m left right whole : List Tree) : Type 0 where
  pub rising_left : IsStrictlySortedBy tree_cmp (m ++ left)
  pub rising_right : IsStrictlySortedBy tree_cmp (m ++ right)
  pub same : (q : Tree) → is_member q (m ++ (left ++ right)) ≡ is_member q whole

one_on : (m xs : List Tree) (x : Tree) → (m ++ x ∷ []) ++ xs ≡ m ++ x ∷ xs
one_on m xs x = append_assoc m (x ∷ []) xs

same_behind : (q : Tree) (m xs ys : List Tree) → is_member q xs ≡ is_member q ys → is_member q (m ++ xs) ≡ is_member q (m ++ ys)
same_behind q m xs ys e = list_any-append (tree_eq q) m xs ∙ ap (λ b. is_member q m || b) e ∙ sym (list_any-append (tree_eq q) m ys)

-- the same list with one more item, of the left or of the right
pub rises_on : (m xs : List Tree) (x : Tree) (new left : List Tree) → left ≡ x ∷ xs → new ≡ m ++ x ∷ [] → IsStrictlySortedBy tree_cmp (m ++ left) → IsStrictlySortedBy tree_cmp (new ++ xs)
rises_on m xs x new left l n h = subst (IsStrictlySortedBy tree_cmp) (ap (λ us. m ++ us) l ∙ sym (ap (λ us. us ++ xs) n ∙ one_on m xs x)) h

pub rises_between : (m xs ys : List Tree) (x y : Tree) (new left right : List Tree) → left ≡ x ∷ xs → right ≡ y ∷ ys → new ≡ m ++ x ∷ [] → tree_cmp x y ≡ Less
    → IsStrictlySortedBy tree_cmp (m ++ left) → IsStrictlySortedBy tree_cmp (m ++ right) → IsStrictlySortedBy tree_cmp (new ++ right)
rises_between m xs ys x y new left right l r n e h j =
    subst (IsStrictlySortedBy tree_cmp) (sym (ap (λ us. us ++ right) n ∙ one_on m right x ∙ ap (λ us. m ++ x ∷ us) r))
    (between m xs ys x y (subst (λ (us : List Tree). IsStrictlySortedBy tree_cmp (m ++ us)) l h) (subst (λ (us : List Tree). IsStrictlySortedBy tree_cmp (m ++ us)) r j) e)

pub takes_left : (m xs ys whole new left right : List Tree) (x y : Tree) → left ≡ x ∷ xs → right ≡ y ∷ ys → new ≡ m ++ x ∷ [] → tree_cmp x y ≡ Less → IsMerge m left right whole → IsMerge new xs right whole
takes_left m xs ys whole new left right x y l r n e h = record {
  rising_left = rises_on m xs x new left l n h.rising_left;
  rising_right = rises_between m xs ys x y new left right l r n e h.rising_left h.rising_right;
  same = λ q. ap (λ us. is_member q (us ++ (xs ++ right))) n ∙ ap (is_member q) (one_on m (xs ++ right) x) ∙ ap (λ us. is_member q (m ++ (us ++ right))) (sym l) ∙ h.same q;
}

pub takes_right : (m xs ys whole new left right : List Tree) (x y : Tree) → left ≡ x ∷ xs → right ≡ y ∷ ys → new ≡ m ++ y ∷ [] → tree_cmp x y ≡ Greater → IsMerge m left right whole → IsMerge new left ys whole
takes_right m xs ys whole new left right x y l r n e h = record {
  rising_left = rises_between m ys xs y x new right left r l n (tree_cmp-total.antisymm y x ∙ ap ordering_reverse e) h.rising_right h.rising_left;
  rising_right = rises_on m ys y new right r n h.rising_right;
  same = λ q. ap (λ us. is_member q (us ++ (left ++ ys))) n ∙ ap (is_member q) (one_on m (left ++ ys) y) ∙ same_behind q m (y ∷ (left ++ ys)) (left ++ (y ∷ ys)) (moved q) ∙ ap (λ us. is_member q (m ++ (left ++ us))) (sym r) ∙ h.same q;
}
  where
    or-swap : (a b c : Bool) → (a || (b || c)) ≡ (b || (a || c))
    or-swap true true c = refl
    or-swap true false c = refl
    or-swap false b c = refl

    moved : (q : Tree) → is_member q (y ∷ (left ++ ys)) ≡ is_member q (left ++ (y ∷ ys))
    moved q = ap (λ b. tree_eq q y || b) (list_any-append (tree_eq q) left ys) ∙ or-swap (tree_eq q y) (is_member q left) (is_member q ys) ∙ sym (list_any-append (tree_eq q) left (y ∷ ys))

pub takes_both : (m xs ys whole new left right : List Tree) (x y : Tree) → left ≡ x ∷ xs → right ≡ y ∷ ys → new ≡ m ++ x ∷ [] → tree_cmp x y ≡ Equal → IsMerge m left right whole → IsMerge new xs ys whole
takes_both m xs ys whole new left right x y l r n e h = record {
  rising_left = rises_on m xs x new left l n h.rising_left;
  rising_right = rises_on m ys x new right r' n h.rising_right;
  same = λ q. ap (λ us. is_member q (us ++ (xs ++ ys))) n ∙ ap (is_member q) (one_on m (xs ++ ys) x) ∙ same_behind q m (x ∷ (xs ++ ys)) (x ∷ (xs ++ (x ∷ ys))) (once q) ∙ ap (λ us. is_member q (m ++ (us ++ (x ∷ ys)))) (sym l) ∙ ap (λ us. is_member q (m ++ (left ++ us))) (sym r') ∙ h.same q;
}
  where
    r' : right ≡ x ∷ ys
    r' = r ∙ ap (λ t. t ∷ ys) (sym (exact-tree x y e))

    or-twice : (a b c : Bool) → (a || (b || c)) ≡ (a || (b || (a || c)))
    or-twice true b c = refl
    or-twice false true c = refl
    or-twice false false c = refl

    once : (q : Tree) → is_member q (x ∷ (xs ++ ys)) ≡ is_member q (x ∷ (xs ++ (x ∷ ys)))
    once q = ap (λ b. tree_eq q x || b) (list_any-append (tree_eq q) xs ys) ∙ or-twice (tree_eq q x) (is_member q xs) (is_member q ys) ∙ ap (λ b. tree_eq q x || b) (sym (list_any-append (tree_eq q) xs (x ∷ ys)))

-- if the rest of one side is empty, the rest of the other comes last
pub ends : (m left right whole : List Tree) → (left ≡ []) ⊎ (right ≡ []) → IsMerge m left right whole → (m ++ left) ++ right ≡ set_of whole
ends m left right whole (inl e) h =
    ap (λ us. (m ++ us) ++ right) e ∙ ap (λ us. us ++ right) (append-nil m)
    ∙ is-set_of (m ++ right) whole h.rising_right (λ q. ap (λ us. is_member q (m ++ (us ++ right))) (sym e) ∙ h.same q)
ends m left right whole (inr e) h =
    ap (λ us. (m ++ left) ++ us) e ∙ append-nil (m ++ left)
    ∙ is-set_of (m ++ left) whole h.rising_left (λ q. ap (λ us. is_member q (m ++ us)) (sym (append-nil left)) ∙ ap (λ us. is_member q (m ++ (left ++ us))) (sym e) ∙ h.same q)
