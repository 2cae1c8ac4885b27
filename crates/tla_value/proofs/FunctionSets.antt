-- Sets of functions: one more function, the number of pairs, and the results of calls.
use Rattle.std.proofs.Common.{◌≡◌, ℕ, zero, suc, ◌*◌, ◌^◌, ◌%◌, ◌<◌, ◌≤◌, List, [], ◌∷◌, ◌++◌, length, map, zip, get_or, take, refl, sym, ap, subst, ◌∙◌, arith, Result, Ok, Err, true, false, ◌==◌}
use Rattle.std.proofs.lemmas.List.{length-map, map-append, get_or-map}
use Rattle.std.specs.List.{AllByRecursion}
use Rattle.std.specs.List.Sorted.{IsStrictlySortedBy}
use Rattle.std.proofs.lemmas.Bool.{eqb-true}
use Rattle.std.proofs.Math.Seq.{take-suc}
use Rattle.std.proofs.Math.Nat.{mul-le-mul, pow-suc}
use Rattle.tla_value.specs.Tree.{Tree, set, fun, trees, members-trees, pairs, deepest, deepest_pair}
use Rattle.tla_value.specs.TreeOf.{tree_of}
use Rattle.tla_value.specs.IsValue.{IsValue, IsFunList}
use Rattle.tla_value.specs.Sets.{set_of, most_pairs, MakesSet, MakesSetOfFunctions}
use Rattle.tla_value.specs.SetLaws.{set_of-rising}
use Rattle.tla_value.proofs.Ways.{length-choices, choices-at}
use Rattle.tla_value.specs.declared.value.Value.{Value}
use Rattle.tla_value.specs.declared.value.Value.TheVariants.{Fun}
use Rattle.tla_value.specs.declared.error.ValueError.{ValueError}
use Rattle.tla_value.specs.declared.error.ValueError.TheVariants.{TooMany, TooDeep, Memory}
use Rattle.tla_value.specs.Order.{tree_cmp}
use Rattle.tla_value.specs.Choices.{choices, functions_by, functions_of}
use Rattle.tla_value.specs.Private.Inner.{ways, choice_of}
use Rattle.tla_value.proofs.Subsets.{many_subsets}
use Rattle.tla_value.proofs.Lists.{all-of}
use Rattle.tla_value.proofs.Choosing.{long-choices, as_many, rising-functions_by}

long-choice_of : (lists : List (List Tree)) (k : ℕ) → length (choice_of lists k) ≡ length lists
long-choice_of [] k = refl
long-choice_of (xs ∷ rest) k = ap suc (long-choice_of rest (k % ways rest))

arguments-zip : (ks c : List Tree) → length c ≡ length ks → map (λ (p : Tree × Tree). p.0) (zip ks c) ≡ ks
arguments-zip [] c e = refl
arguments-zip (k ∷ ks) [] e = absurd (omega arith)
arguments-zip (k ∷ ks) (x ∷ c) e = ap (λ us. k ∷ us) (arguments-zip ks c (omega arith))

pub is-fun_list : (ks : List Tree) (lists : List (List Tree)) (k : ℕ) (ps : List (Tree × Tree)) → length ks ≡ length lists → length ks ≤ 1000000 → IsStrictlySortedBy tree_cmp ks
    → ps ≡ zip ks (choice_of lists k) → deepest_pair (pairs ps) < 64 → IsFunList ps
is-fun_list ks lists k ps e few rising is shallow =
    let as_long : length (choice_of lists k) ≡ length ks = long-choice_of lists k ∙ sym e in
    let keys : map (λ (p : Tree × Tree). p.0) ps ≡ ks = ap (map (λ (p : Tree × Tree). p.0)) is ∙ arguments-zip ks (choice_of lists k) as_long in
    record {
      rising = subst (IsStrictlySortedBy tree_cmp) (sym keys) rising;
      few = omega (arith, length-map ps (λ (p : Tree × Tree). p.0), ap length keys);
      shallow = shallow;
    }

pub length-functions_by : (ks : List Tree) (lists : List (List Tree)) → length (functions_by ks lists) ≡ ways lists
length-functions_by ks lists = length-map (choices lists) (λ c. fun (pairs (zip ks c))) ∙ length-choices lists

pub function_more : (old new : List Value) (made : List (Tree × Tree)) (ks : List Tree) (lists : List (List Tree)) (k : ℕ) → k < ways lists → new ≡ old ++ Fun made ∷ [] → made ≡ zip ks (choice_of lists k)
    → map tree_of old ≡ take k (functions_by ks lists) → map tree_of new ≡ take (suc k) (functions_by ks lists)
function_more old new made ks lists k l e is h =
    let f : List Tree → Tree = λ c. fun (pairs (zip ks c)) in
    let here : get_or (functions_by ks lists) k (f []) ≡ fun (pairs made) =
    get_or-map f (choices lists) k [] (f []) (omega (arith, length-choices lists)) ∙ ap f (choices-at lists k l) ∙ ap (λ ps. fun (pairs ps)) (sym is) in
    ap (map tree_of) e ∙ map-append tree_of old (Fun made ∷ [])
    ∙ ap (λ us. us ++ fun (pairs made) ∷ []) h ∙ ap (λ t. take k (functions_by ks lists) ++ t ∷ []) (sym here)
    ∙ sym (take-suc (functions_by ks lists) k (f []) (omega (arith, length-functions_by ks lists)))

most-functions : (ks : List Tree) (cs : List (List Tree)) → AllByRecursion (λ c. length c ≡ length ks) cs → most_pairs (map (λ c. fun (pairs (zip ks c))) cs) ≤ length ks
most-functions ks [] h = omega arith
most-functions ks (c ∷ cs) h = omega (arith, as_many ks c h.0, most-functions ks cs h.1)

pub most-functions_by : (ks : List Tree) (lists : List (List Tree)) → length ks ≡ length lists → most_pairs (functions_by ks lists) ≤ length ks
most-functions_by ks lists e = most-functions ks (choices lists) (all-of (choices lists) (λ c f. f ∙ sym e) (long-choices lists))

some-function : (ks : List Tree) (cs : List (List Tree)) → AllByRecursion (λ c. length c ≡ length ks) cs → 0 < length cs → length ks ≤ most_pairs (map (λ c. fun (pairs (zip ks c))) cs)
some-function ks [] h l = absurd (omega arith)
some-function ks (c ∷ cs) h l = omega (arith, as_many ks c h.0)

pub some-functions_by : (ks : List Tree) (lists : List (List Tree)) → length ks ≡ length lists → 0 < ways lists → length ks ≤ most_pairs (functions_by ks lists)
some-functions_by ks lists e l = some-function ks (choices lists) (all-of (choices lists) (λ c f. f ∙ sym e) (long-choices lists)) (omega (arith, length-choices lists))

pub set_of-functions_by : (ks : List Tree) (lists : List (List Tree)) → length ks ≡ length lists → AllByRecursion (IsStrictlySortedBy tree_cmp) lists → set_of (functions_by ks lists) ≡ functions_by ks lists
set_of-functions_by ks lists e h = set_of-rising (functions_by ks lists) (rising-functions_by ks lists e h)

-- a set of small enough functions is refused only for their number or nesting
pub MakesSetOfFunctions-small : (ts : List Tree) (result : Result (List Tree) ValueError) → most_pairs ts ≤ 1000000 → MakesSet ts result → MakesSetOfFunctions ts result
MakesSetOfFunctions-small ts (Ok s) few h = h
MakesSetOfFunctions-small ts (Err TooMany) few h = omega arith
MakesSetOfFunctions-small ts (Err TooDeep) few h = (omega arith, h.1)
MakesSetOfFunctions-small ts (Err Memory) few h = tt

pub no_choices : (lists : List (List Tree)) → ways lists ≡ 0 → choices lists ≡ []
no_choices lists e = empty (choices lists) (length-choices lists ∙ e)
  where
    empty : (cs : List (List Tree)) → length cs ≡ 0 → cs ≡ []
    empty [] f = refl
    empty (c ∷ cs) f = absurd (omega arith)

pub some-ways : (n : ℕ) → (n == 0) ≡ false → 0 < n
some-ways zero f = cc
some-ways (suc n) f = omega arith

pub too_many_functions : (ks : List Tree) (lists : List (List Tree)) → length ks ≡ length lists → AllByRecursion (IsStrictlySortedBy tree_cmp) lists → 1000000 < ways lists → 1000000 < length (set_of (functions_by ks lists))
too_many_functions ks lists e h l = let many = length-functions_by ks lists in subst (λ ts. 1000000 < length ts) (sym (set_of-functions_by ks lists e h)) (omega arith)

-- with a range of two or more members, each argument at least doubles the number of functions
ways-repeated : (xs ys : List Tree) → 2 ≤ length ys → 2 ^ length xs ≤ ways (map (λ (x : Tree). ys) xs)
ways-repeated [] ys h = omega arith
ways-repeated (x ∷ xs) ys h = let more : 2 * 2 ^ length xs ≤ length ys * ways (map (λ (z : Tree). ys) xs) = mul-le-mul h (ways-repeated xs ys h) in omega (arith, pow-suc 2 (length xs))

rising-repeated : (xs ys : List Tree) → IsStrictlySortedBy tree_cmp ys → AllByRecursion (IsStrictlySortedBy tree_cmp) (map (λ (x : Tree). ys) xs)
rising-repeated [] ys h = tt
rising-repeated (x ∷ xs) ys h = (h, rising-repeated xs ys h)

pub many_functions : (xs ys : List Tree) → 19 < length xs → 1 < length ys → IsStrictlySortedBy tree_cmp ys → 1000000 < length (set_of (functions_of xs ys))
many_functions xs ys long wide h =
    too_many_functions xs (map (λ (x : Tree). ys) xs) (sym (length-map xs (λ (x : Tree). ys))) (rising-repeated xs ys h)
    (let doubled = ways-repeated xs ys (omega arith) in let many = many_subsets (length xs) long in omega arith)

pub few_members : (ts : List Tree) (vs : List Value) → map tree_of vs ≡ ts → IsValue (set (trees ts)) → length vs ≤ 1000000
few_members ts vs e h = omega (arith, length-map vs tree_of, ap length e, h.1.few, ap length (members-trees ts))

pub shallow_members : (ts : List Tree) (vs : List Value) → map tree_of vs ≡ ts → IsValue (set (trees ts)) → deepest (trees (map tree_of vs)) < 64
shallow_members ts vs e h = subst (λ (us : List Tree). deepest (trees us) < 64) (members-trees ts ∙ sym e) h.1.shallow

pub makes_no_records : (ks : List Tree) (lists : List (List Tree)) (s : List Tree) → (ways lists == 0) ≡ true → s ≡ [] → MakesSetOfFunctions (set_of (functions_by ks lists)) (Ok s)
unfolding IsStrictlySortedBy
makes_no_records ks lists s e f =
    let none : functions_by ks lists ≡ [] = ap (map (λ c. fun (pairs (zip ks c)))) (no_choices lists (eqb-true (ways lists) 0 e)) in
    subst (λ ts. MakesSetOfFunctions (set_of ts) (Ok s)) (sym none) (f, (tt, record { rising = tt; few = omega arith; shallow = omega arith }))

pub too_long_records : (ks : List Tree) (lists : List (List Tree)) → length ks ≡ length lists → AllByRecursion (IsStrictlySortedBy tree_cmp) lists → (ways lists == 0) ≡ false → 1000000 < length lists
    → MakesSetOfFunctions (set_of (functions_by ks lists)) (Err TooMany)
too_long_records ks lists long h e l =
    let some = some-functions_by ks lists long (some-ways (ways lists) e) in
    subst (λ ts. MakesSetOfFunctions ts (Err TooMany)) (sym (set_of-functions_by ks lists long h)) (omega arith)

pub too_many_records : (ks : List Tree) (lists : List (List Tree)) → length ks ≡ length lists → AllByRecursion (IsStrictlySortedBy tree_cmp) lists → 1000000 < ways lists
    → MakesSetOfFunctions (set_of (functions_by ks lists)) (Err TooMany)
too_many_records ks lists long h l =
    let many = length-functions_by ks lists in
    subst (λ ts. MakesSetOfFunctions ts (Err TooMany)) (sym (set_of-functions_by ks lists long h)) (omega arith)

pub makes_functions : (ks : List Tree) (lists : List (List Tree)) (result : Result (List Tree) ValueError) → length ks ≡ length lists → AllByRecursion (IsStrictlySortedBy tree_cmp) lists → length lists ≤ 1000000
    → MakesSet (set_of (functions_by ks lists)) result → MakesSetOfFunctions (set_of (functions_by ks lists)) result
makes_functions ks lists result long h few made =
    let most : most_pairs (set_of (functions_by ks lists)) ≤ 1000000 =
    subst (λ ts. most_pairs ts ≤ 1000000) (sym (set_of-functions_by ks lists long h)) (let m = most-functions_by ks lists long in omega arith) in
    MakesSetOfFunctions-small (set_of (functions_by ks lists)) result most made
