-- Tuples are the functions on 1 to n; the result of their call.
use Rattle.std.proofs.Common.{◌≡◌, ℕ, zero, suc, ◌+◌, ◌<◌, ◌≤◌, List, [], ◌∷◌, length, map, zip, refl, sym, ap, subst, ◌∙◌, arith, ℤ, pos, ◌+ℤ◌, Result, Ok, Err, true, false, ◌==◌}
use Rattle.std.specs.List.{AllByRecursion}
use Rattle.std.specs.List.Sorted.{IsStrictlySortedBy}
use Rattle.std.proofs.lemmas.Bool.{eqb-true}
use Rattle.tla_value.specs.Tree.{Tree, int, fun, trees, pairs, deepest}
use Rattle.tla_value.proofs.Ranges.{length-counted_up}
use Rattle.tla_value.specs.Sets.{set_of, most_pairs, MakesSet, MakesSetOfFunctions}
use Rattle.tla_value.specs.declared.error.ValueError.{ValueError}
use Rattle.tla_value.specs.declared.error.ValueError.TheVariants.{TooMany}
use Rattle.tla_value.specs.Order.{tree_cmp}
use Rattle.tla_value.specs.Choices.{choices, functions_by, numbered, sequence, tuples_of, counted_up}
use Rattle.tla_value.specs.Private.Inner.{ways}
use Rattle.tla_value.proofs.FunctionSets.{length-functions_by, most-functions_by, some-functions_by, set_of-functions_by, MakesSetOfFunctions-small, no_choices, some-ways}
use Rattle.tla_value.proofs.Choosing.{long-choices}

pub numbered_is : (k : ℕ) (c : List Tree) → zip (counted_up (length c) (pos k)) c ≡ numbered k c
numbered_is k [] = refl
numbered_is k (x ∷ c) = ap (λ ps. (int (pos k), x) ∷ ps) (numbered_is (k + 1) c)

tuples_by : (n : ℕ) (cs : List (List Tree)) → AllByRecursion (λ c. length c ≡ n) cs → map sequence cs ≡ map (λ c. fun (pairs (zip (counted_up n (pos 1)) c))) cs
tuples_by n [] h = refl
tuples_by n (c ∷ cs) h = λ i. fun (pairs ((sym (numbered_is 1 c) ∙ ap (λ m. zip (counted_up m (pos 1)) c) h.0) i)) ∷ tuples_by n cs h.1 i

pub tuples_are : (lists : List (List Tree)) → tuples_of lists ≡ functions_by (counted_up (length lists) (pos 1)) lists
tuples_are lists = tuples_by (length lists) (choices lists) (long-choices lists)

-- numbers are not nested
pub deepest-counted_up : (n : ℕ) (z : ℤ) → deepest (trees (counted_up n z)) ≡ 0
deepest-counted_up zero z = refl
deepest-counted_up (suc n) z = omega (arith, deepest-counted_up n (z +ℤ pos 1))

pub makes_no_tuples : (lists : List (List Tree)) (s : List Tree) → (ways lists == 0) ≡ true → s ≡ [] → MakesSetOfFunctions (set_of (tuples_of lists)) (Ok s)
unfolding IsStrictlySortedBy
makes_no_tuples lists s e f =
    let none : tuples_of lists ≡ [] = ap (map sequence) (no_choices lists (eqb-true (ways lists) 0 e)) in
    subst (λ ts. MakesSetOfFunctions (set_of ts) (Ok s)) (sym none) (f, (tt, record { rising = tt; few = omega arith; shallow = omega arith }))

tuples_set : (lists : List (List Tree)) → AllByRecursion (IsStrictlySortedBy tree_cmp) lists → set_of (tuples_of lists) ≡ functions_by (counted_up (length lists) (pos 1)) lists
tuples_set lists h = ap set_of (tuples_are lists) ∙ set_of-functions_by (counted_up (length lists) (pos 1)) lists (length-counted_up (length lists) (pos 1)) h

pub too_long_tuples : (lists : List (List Tree)) → AllByRecursion (IsStrictlySortedBy tree_cmp) lists → (ways lists == 0) ≡ false → 1000000 < length lists → MakesSetOfFunctions (set_of (tuples_of lists)) (Err TooMany)
too_long_tuples lists h e l =
    let ks = counted_up (length lists) (pos 1) in
    let long = length-counted_up (length lists) (pos 1) in
    let some = some-functions_by ks lists long (some-ways (ways lists) e) in
    subst (λ ts. MakesSetOfFunctions ts (Err TooMany)) (sym (tuples_set lists h)) (omega arith)

pub too_many_tuples : (lists : List (List Tree)) → AllByRecursion (IsStrictlySortedBy tree_cmp) lists → 1000000 < ways lists → MakesSetOfFunctions (set_of (tuples_of lists)) (Err TooMany)
too_many_tuples lists h l =
    let ks = counted_up (length lists) (pos 1) in
    let many = length-functions_by ks lists in
    subst (λ ts. MakesSetOfFunctions ts (Err TooMany)) (sym (tuples_set lists h)) (omega arith)

pub makes_tuples : (ks : List Tree) (lists : List (List Tree)) (result : Result (List Tree) ValueError) → AllByRecursion (IsStrictlySortedBy tree_cmp) lists → length lists ≤ 1000000 → ks ≡ counted_up (length lists) (pos 1)
    → MakesSet (set_of (functions_by ks lists)) result → MakesSetOfFunctions (set_of (tuples_of lists)) result
makes_tuples ks lists result h few is made =
    let long : length ks ≡ length lists = ap length is ∙ length-counted_up (length lists) (pos 1) in
    let same : set_of (functions_by ks lists) ≡ set_of (tuples_of lists) = ap set_of (ap (λ us. functions_by us lists) is ∙ sym (tuples_are lists)) in
    let most : most_pairs (set_of (functions_by ks lists)) ≤ 1000000 =
    subst (λ ts. most_pairs ts ≤ 1000000) (sym (set_of-functions_by ks lists long h)) (let m = most-functions_by ks lists long in omega arith) in
    subst (λ ts. MakesSetOfFunctions ts result) same (MakesSetOfFunctions-small (set_of (functions_by ks lists)) result most made)
