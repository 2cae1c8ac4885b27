-- The sublist with a number, and the set of it.
use Rattle.std.proofs.Common.{◌≡◌, ℕ, zero, suc, ◌+◌, ◌*◌, ◌/◌, ◌-◌, ◌%◌, ◌^◌, ◌<◌, ◌≤◌, nat_le, Bool, true, false, cond, max, List, [], ◌∷◌, ◌++◌, append_assoc, length, map, get_or, take, drop, refl, sym, ap, subst, ◌∙◌, arith, ⊎_elim, Less}
use Rattle.std.specs.List.{AllByRecursion}
use Rattle.std.specs.List.Sorted.{IsStrictlySortedBy}
use Rattle.std.proofs.Math.Nat.{mod-eq_of_lt, add-mod_left, pow-suc, mul-div_left}
use Rattle.std.proofs.lemmas.Nat.{pow_pos}
use Rattle.std.proofs.lemmas.Bool.{cases_lt}
use Rattle.std.proofs.lemmas.Bool.Decides.{nat_tests}
use Rattle.std.proofs.lemmas.List.{length-map, map-append, get_or-map, get_or_append_left, get_or-append-add, length-drop}
use Rattle.std.proofs.Math.Seq.{take-suc}
use Rattle.tla_value.specs.Tree.{Tree, set, trees, members-trees, deepest, depth}
use Rattle.tla_value.specs.TreeOf.{tree_of}
use Rattle.tla_value.specs.Order.{tree_cmp}
use Rattle.tla_value.specs.IsValue.{IsValue, IsSetList}
use Rattle.tla_value.specs.SetLaws.{set_of-rising}
use Rattle.tla_value.specs.Choices.{sublists, set_tree, subsets_of}
use Rattle.tla_value.specs.Private.Inner.{sublist_of}
use Rattle.tla_value.specs.declared.value.Value.{Value}
use Rattle.tla_value.specs.declared.value.Value.TheVariants.{Set}
use Rattle.tla_value.proofs.Subsets.{length-sublists}

halved : (n : ℕ) → 2 ^ suc n / 2 ≡ 2 ^ n
halved n = let e : 2 ^ suc n ≡ 2 ^ n * 2 = omega (arith, pow-suc 2 n) in ap (λ m. m / 2) e ∙ mul-div_left (2 ^ n) (omega arith)

pub half_of : (vs : List Value) (i h : ℕ) → i < length vs → h ≡ 2 ^ length (drop i vs) → h / 2 ≡ 2 ^ length (drop (suc i) vs)
half_of vs i h l e =
    let one_less : length (drop i vs) ≡ suc (length (drop (suc i) vs)) = omega (arith, length-drop i vs, length-drop (suc i) vs) in
    ap (λ m. m / 2) (e ∙ ap (λ n. 2 ^ n) one_less) ∙ halved (length (drop (suc i) vs))

pub positive_half : (vs : List Value) (i h : ℕ) → i < length vs → h ≡ 2 ^ length (drop i vs) → 0 < h / 2
positive_half vs i h l e = subst (λ (n : ℕ). 0 < n) (sym (half_of vs i h l e)) (pow_pos (length (drop (suc i) vs)))

pub kept_more : (old new : List Tree) (x : Tree) (xs rest : List Tree) (k h : ℕ) (whole : List Tree) → rest ≡ x ∷ xs → h ≡ 2 ^ length xs → new ≡ cond (nat_le h k) (old ++ x ∷ []) old
    → old ++ sublist_of rest k ≡ whole → new ++ sublist_of xs (k % h) ≡ whole
kept_more old new x xs rest k h whole r e n was =
    ap (λ us. us ++ sublist_of xs (k % h)) n ∙ added (nat_le h k) ∙ ap (λ m. old ++ cond (nat_le m k) (x ∷ sublist_of xs (k % m)) (sublist_of xs (k % m))) e ∙ ap (λ us. old ++ sublist_of us k) (sym r) ∙ was
  where
    added : (b : Bool) → cond b (old ++ x ∷ []) old ++ sublist_of xs (k % h) ≡ old ++ cond b (x ∷ sublist_of xs (k % h)) (sublist_of xs (k % h))
    added true = append_assoc old (x ∷ []) (sublist_of xs (k % h))
    added false = refl

low_test : (n k : ℕ) → k < n → nat_le n k ≡ false
low_test n k m = grind (arith, nat_tests)

high_test : (n k : ℕ) → n ≤ k → nat_le n k ≡ true
high_test n k m = grind (arith, nat_tests)

twice : (n : ℕ) → 2 ^ suc n ≡ 2 ^ n + 2 ^ n
twice n = omega (arith, pow-suc 2 n)

-- a number below the half is a sublist of the lower half; else the number minus the half is one of the upper half
past_half : (n k : ℕ) → n ≤ k → k < n + n → k % n ≡ k - n
past_half n k l h = let e : k ≡ n + (k - n) = omega arith in ap (λ m. m % n) e ∙ add-mod_left n (k - n) ∙ mod-eq_of_lt (omega arith)

sublists-at : (xs : List Tree) (k : ℕ) → k < 2 ^ length xs → get_or (sublists xs) k [] ≡ sublist_of xs k
sublists-at [] zero l = refl
sublists-at [] (suc k) l = absurd (omega arith)
sublists-at (x ∷ xs) k l =
    ⊎_elim
    (λ (m : k < 2 ^ length xs).
    get_or_append_left (sublists xs) (map (λ c. x ∷ c) (sublists xs)) [] k (omega (arith, length-sublists xs))
    ∙ sublists-at xs k m
    ∙ ap (sublist_of xs) (sym (mod-eq_of_lt m))
    ∙ ap (λ b. cond b (x ∷ sublist_of xs (k % 2 ^ length xs)) (sublist_of xs (k % 2 ^ length xs))) (sym (low_test (2 ^ length xs) k m)))
    (λ (m : 2 ^ length xs ≤ k).
    let less : k - 2 ^ length xs < 2 ^ length xs = omega (arith, twice (length xs)) in
    let whole : k < 2 ^ length xs + 2 ^ length xs = omega (arith, twice (length xs)) in
    ap (λ n. get_or (sublists xs ++ map (λ c. x ∷ c) (sublists xs)) n []) (let e : k ≡ 2 ^ length xs + (k - 2 ^ length xs) = omega arith in e ∙ ap (λ n. n + (k - 2 ^ length xs)) (sym (length-sublists xs)))
    ∙ get_or-append-add (sublists xs) (map (λ c. x ∷ c) (sublists xs)) (k - 2 ^ length xs) []
    ∙ get_or-map (λ c. x ∷ c) (sublists xs) (k - 2 ^ length xs) [] [] (omega (arith, length-sublists xs))
    ∙ ap (λ c. x ∷ c) (sublists-at xs (k - 2 ^ length xs) less ∙ ap (sublist_of xs) (sym (past_half (2 ^ length xs) k m whole)))
    ∙ ap (λ b. cond b (x ∷ sublist_of xs (k % 2 ^ length xs)) (sublist_of xs (k % 2 ^ length xs))) (sym (high_test (2 ^ length xs) k m)))
    (cases_lt k (2 ^ length xs))

all-sublist_of : (P : Tree → Type 0) (xs : List Tree) (k : ℕ) → AllByRecursion P xs → AllByRecursion P (sublist_of xs k)
all-sublist_of P [] k h = tt
all-sublist_of P (x ∷ xs) k h =
    elim (nat_le (2 ^ length xs) k) as (λ b. AllByRecursion P (cond b (x ∷ sublist_of xs (k % 2 ^ length xs)) (sublist_of xs (k % 2 ^ length xs)))) [
      | true ↦ (h.0, all-sublist_of P xs (k % 2 ^ length xs) h.1)
      | false ↦ all-sublist_of P xs (k % 2 ^ length xs) h.1
    ]

rising-sublist_of : (xs : List Tree) (k : ℕ) → IsStrictlySortedBy tree_cmp xs → IsStrictlySortedBy tree_cmp (sublist_of xs k)
unfolding IsStrictlySortedBy
rising-sublist_of [] k h = tt
rising-sublist_of (x ∷ xs) k h =
    elim (nat_le (2 ^ length xs) k) as (λ b. IsStrictlySortedBy tree_cmp (cond b (x ∷ sublist_of xs (k % 2 ^ length xs)) (sublist_of xs (k % 2 ^ length xs)))) [
      | true ↦ (all-sublist_of (λ y. tree_cmp x y ≡ Less) xs (k % 2 ^ length xs) h.0, rising-sublist_of xs (k % 2 ^ length xs) h.1)
      | false ↦ rising-sublist_of xs (k % 2 ^ length xs) h.1
    ]

shorter : (xs : List Tree) (k : ℕ) → length (sublist_of xs k) ≤ length xs
shorter [] k = omega arith
shorter (x ∷ xs) k =
    let rest : length (sublist_of xs (k % 2 ^ length xs)) ≤ length xs = shorter xs (k % 2 ^ length xs) in
    elim (nat_le (2 ^ length xs) k) as (λ b. length (cond b (x ∷ sublist_of xs (k % 2 ^ length xs)) (sublist_of xs (k % 2 ^ length xs))) ≤ suc (length xs)) [
      | true ↦ omega arith
      | false ↦ omega arith
    ]

shallower : (xs : List Tree) (k : ℕ) → deepest (trees (sublist_of xs k)) ≤ deepest (trees xs)
shallower [] k = omega arith
shallower (x ∷ xs) k =
    let rest : deepest (trees (sublist_of xs (k % 2 ^ length xs))) ≤ deepest (trees xs) = shallower xs (k % 2 ^ length xs) in
    elim (nat_le (2 ^ length xs) k) as (λ b. deepest (trees (cond b (x ∷ sublist_of xs (k % 2 ^ length xs)) (sublist_of xs (k % 2 ^ length xs)))) ≤ max (depth x) (deepest (trees xs))) [
      | true ↦ omega arith
      | false ↦ omega arith
    ]

pub is-set_list : (xs : List Tree) (k : ℕ) (ts : List Tree) → IsValue (set (trees xs)) → ts ≡ sublist_of xs k → IsSetList ts
is-set_list xs k ts h is =
    let whole : IsSetList xs = subst IsSetList (members-trees xs) h.1 in
    subst IsSetList (sym is) (record {
      rising = rising-sublist_of xs k whole.rising;
      few = let m = shorter xs k in let few = whole.few in omega arith;
      shallow = let m = shallower xs k in let shallow = whole.shallow in omega arith;
    })

pub length-subsets_of : (xs : List Tree) → length (subsets_of xs) ≡ 2 ^ length xs
length-subsets_of xs = length-map (sublists xs) set_tree ∙ length-sublists xs

pub subset_more : (xs : List Tree) (old new : List Value) (made : List Tree) (k : ℕ) → IsValue (set (trees xs)) → k < 2 ^ length xs → new ≡ old ++ Set made ∷ [] → made ≡ sublist_of xs k
    → map tree_of old ≡ take k (subsets_of xs) → map tree_of new ≡ take (suc k) (subsets_of xs)
subset_more xs old new made k v l e is h =
    let whole : IsSetList xs = subst IsSetList (members-trees xs) v.1 in
    let here : get_or (subsets_of xs) k (set_tree []) ≡ set (trees made) =
    get_or-map set_tree (sublists xs) k [] (set_tree []) (omega (arith, length-sublists xs))
    ∙ ap set_tree (sublists-at xs k l) ∙ ap (λ us. set (trees us)) (set_of-rising (sublist_of xs k) (rising-sublist_of xs k whole.rising) ∙ sym is) in
    ap (map tree_of) e ∙ map-append tree_of old (Set made ∷ [])
    ∙ ap (λ us. us ++ set (trees made) ∷ []) h ∙ ap (λ t. take k (subsets_of xs) ++ t ∷ []) (sym here)
    ∙ sym (take-suc (subsets_of xs) k (set_tree []) (omega (arith, length-subsets_of xs)))
