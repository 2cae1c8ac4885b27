-- The function on all choices from some lists: its arguments are the tuples in their order.
use Rattle.std.proofs.Common.{◌≡◌, ◌⊎◌, ⊎_elim, ℕ, suc, ◌+◌, ◌<◌, ◌≤◌, nat_lt, max, Bool, true, false, List, [], ◌∷◌, map, length, get_or, zip, refl, sym, ap, subst, ◌∙◌, Ok, Err, Some, None, inl, inr, arith, pos}
use Rattle.std.specs.BTreeMap.{insert_entry}
use Rattle.std.specs.Ordering.{match_ordering}
use Rattle.std.specs.declared.cmp.Ordering.TheVariants.{Less, Equal, Greater}
use Rattle.std.specs.List.{AllByRecursion}
use Rattle.std.specs.List.Sorted.{IsStrictlySortedBy}
use Rattle.std.proofs.lemmas.List.{length-map}
use Rattle.std.proofs.lemmas.Bool.Decides.{nat_tests}
use Rattle.tla_value.specs.Tree.{Tree, set, fun, trees, pairs, pair_count, members, deepest, deepest_pair, members-trees}
use Rattle.tla_value.specs.IsValue.{IsValue}
use Rattle.tla_value.specs.declared.error.ValueError.{ValueError}
use Rattle.tla_value.specs.Order.{tree_cmp}
use Rattle.tla_value.specs.Sets.{set_of, most_pairs, RefusesSetOfSize}
use Rattle.tla_value.specs.SetLaws.{set_of-rising}
use Rattle.tla_value.specs.Funs.{arguments, fun_of}
use Rattle.tla_value.specs.FunLaws.{arguments-fun_of}
use Rattle.tla_value.specs.Choices.{choices, numbered, sequence, tuples_of, counted_up}
use Rattle.tla_value.proofs.Ranges.{length-counted_up}
use Rattle.tla_value.proofs.Choosing.{long-choices, rising-functions_by}
use Rattle.tla_value.proofs.FunctionSets.{most-functions_by}
use Rattle.tla_value.proofs.Tuples.{tuples_are}
use Rattle.tla_core.specs.declared.fault.Place.{Place}
use Rattle.tla_core.specs.declared.fault.Fault.{Fault}
use Rattle.tla_core.specs.declared.fault.FaultCode.{FaultCode}
use Rattle.tla_core.specs.Fault.{Outcome, ◌>>=◌, out_of_memory}
use Rattle.tla_core.specs.Kinds.{as_set, within, make_fun, make_function_set, size_of_functions}
use Rattle.tla_core.specs.Lists.{each}
use Rattle.tla_core.specs.Functions.{argument_of, names_in, function_on}
use Rattle.tla_sets.specs.Domain.{function_rule}
use Rattle.tla_operators.specs.Gives.{IsRefusal}
use Rattle.tla_operators.proofs.Members.{set-same, within-ok}
use Rattle.tla_operators.proofs.Made.{within_many, within_deep, within_ok, functions_made, functions_refused}
use Rattle.tla_sets.proofs.Listed.{each_long}

abbrev pub AllRise : List (List Tree) → Type 0
AllRise lists = AllByRecursion (IsStrictlySortedBy tree_cmp) lists

-- ---- one set
pub one_item : {A : Type 0} (xs : List A) (x : A) → length xs ≡ 1 → x ≡ get_or xs 0 x → xs ≡ x ∷ []
one_item [] x e h = absurd (omega arith)
one_item (y ∷ []) x e h = ap (λ z. z ∷ []) (sym h)
one_item (y ∷ z ∷ rest) x e h = absurd (omega arith)

pub one_list : (p : Place) (ts : List Tree) (t : Tree) (xs : List Tree) → ts ≡ t ∷ [] → as_set p t ≡ Ok xs → each (as_set p) ts ≡ Ok (xs ∷ [])
one_list p ts t xs e h = ap (each (as_set p)) e ∙ ap (λ (o : Outcome (List Tree)). o >>= λ y. Ok (y ∷ [])) h

pub rule_is : (p : Place) (ts vs : List Tree) (lists : List (List Tree)) → each (as_set p) ts ≡ Ok lists → function_rule p ts vs ≡ function_on p (choices lists) vs
rule_is p ts vs lists h = ap (λ (o : Outcome (List (List Tree))). o >>= λ ls. function_on p (choices ls) vs) h

-- ---- one bound name
pub long-single : (xs : List Tree) → length (choices (xs ∷ [])) ≡ length xs
long-single [] = refl
long-single (x ∷ xs) = ap suc (long-single xs)

arguments_single : (xs : List Tree) → map argument_of (choices (xs ∷ [])) ≡ xs
arguments_single [] = refl
arguments_single (x ∷ xs) = ap (λ us. x ∷ us) (arguments_single xs)

some-insert : (es : List (Tree × Tree)) (k v : Tree) → 1 ≤ length (insert_entry tree_cmp es k v)
some-insert [] k v = omega arith
some-insert (e ∷ es) k v =
    elim (tree_cmp k e.0) as (λ r. 1 ≤ length (match_ordering r ((k, v) ∷ e ∷ es) ((e.0, v) ∷ es) (e ∷ insert_entry tree_cmp es k v))) [
      | Less ↦ omega arith
      | Equal ↦ omega arith
      | Greater ↦ omega arith
    ]

pub function_on_single : (p : Place) (xs vs : List Tree) → function_on p (choices (xs ∷ [])) vs ≡ make_fun p (zip xs vs)
function_on_single p [] vs = refl
function_on_single p (x ∷ xs) [] = refl
function_on_single p (x ∷ xs) (v ∷ vs) =
    let rest : zip (map argument_of (choices (xs ∷ []))) vs ≡ zip xs vs = ap (λ us. zip us vs) (arguments_single xs) in
    let ps = fun_of (zip xs vs) in
    let h = some-insert ps x v in
    let most : max (length (insert_entry tree_cmp ps x v)) 1 ≡ length (insert_entry tree_cmp ps x v) = omega arith in
    ap (λ qs. within p (max (length (insert_entry tree_cmp (fun_of qs) x v)) 1) (deepest_pair (pairs (insert_entry tree_cmp (fun_of qs) x v))) (fun (pairs (insert_entry tree_cmp (fun_of qs) x v)))) rest
    ∙ ap (λ n. within p n (deepest_pair (pairs (insert_entry tree_cmp ps x v))) (fun (pairs (insert_entry tree_cmp ps x v)))) most

-- ---- arguments
pub arguments_zip : (ks vs : List Tree) → length vs ≡ length ks → arguments (zip ks vs) ≡ ks
arguments_zip [] vs e = refl
arguments_zip (k ∷ ks) [] e = absurd (omega arith)
arguments_zip (k ∷ ks) (v ∷ vs) e = ap (λ us. k ∷ us) (arguments_zip ks vs (omega arith))

tuples_rise : (lists : List (List Tree)) → AllRise lists → set_of (tuples_of lists) ≡ tuples_of lists
tuples_rise lists h = set_of-rising (tuples_of lists) (subst (IsStrictlySortedBy tree_cmp) (sym (tuples_are lists)) (rising-functions_by (counted_up (length lists) (pos 1)) lists (length-counted_up (length lists) (pos 1)) h))

-- the argument of a choice of no or of several values is their tuple
tuple_argument : (c : List Tree) → (length c ≡ 1 → ⊥) → argument_of c ≡ sequence c
tuple_argument [] h = refl
tuple_argument (x ∷ []) h = absurd (h refl)
tuple_argument (x ∷ y ∷ c) h = refl

tuple_arguments : (n : ℕ) (cs : List (List Tree)) → (n ≡ 1 → ⊥) → AllByRecursion (λ c. length c ≡ n) cs → map argument_of cs ≡ map sequence cs
tuple_arguments n [] h all = refl
tuple_arguments n (c ∷ cs) h all = (λ i. tuple_argument c (λ e. h (sym all.0 ∙ e)) i ∷ tuple_arguments n cs h all.1 i)

-- the length of the arguments, and the limit
names_or_none : (n : ℕ) (cs : List (List Tree)) → AllByRecursion (λ c. length c ≡ n) cs → most_pairs (map sequence cs) ≤ n → most_pairs (map sequence cs) ≤ names_in cs
names_or_none n [] all h = omega arith
names_or_none n (c ∷ cs) all h = omega (arith, all.0)

count_numbered : (k : ℕ) (c : List Tree) → pair_count (pairs (numbered k c)) ≡ length c
count_numbered k [] = refl
count_numbered k (x ∷ c) = ap suc (count_numbered (k + 1) c)

some_names : (cs : List (List Tree)) → names_in cs ≤ most_pairs (map sequence cs)
some_names [] = omega arith
some_names (c ∷ cs) = omega (arith, count_numbered 1 c)

deepest_argument : (ps : List (Tree × Tree)) → deepest (trees (arguments ps)) ≤ deepest_pair (pairs ps)
deepest_argument [] = omega arith
deepest_argument (p ∷ ps) = let h = deepest_argument ps in omega arith

-- ---- limits
within_few : (p : Place) (n d : ℕ) (t u : Tree) → within p n d t ≡ Ok u → n ≤ 1000000
within_few p n d t u h = grind (arith, nat_tests)

within_less : (p : Place) (n k d : ℕ) (t : Tree) → k ≤ 1000000 → within p (max n k) d t ≡ within p n d t
within_less p n k d t h = grind (arith, nat_tests)

err_same : {f g : Fault} → (let r : Outcome Tree = Err f in r ≡ Err g) → f ≡ g
err_same h = cc

ok_err : {t : Tree} {f : Fault} → (let r : Outcome Tree = Ok t in r ≡ Err f) → ⊥
ok_err h = cc

within_fault : (p : Place) (n d : ℕ) (t : Tree) (f : Fault) → within p n d t ≡ Err f → ((1000000 < n) × (f ≡ record { code = FaultCode.TooMany; place = Some p; variable = None })) ⊎ ((n ≤ 1000000) × (64 ≤ d) × (f ≡ record { code = FaultCode.TooDeep; place = Some p; variable = None }))
within_fault p n d t f h = go (nat_lt 1000000 n) refl (nat_lt 63 d) refl
  where
    go : (x : Bool) → nat_lt 1000000 n ≡ x → (y : Bool) → nat_lt 63 d ≡ y → ((1000000 < n) × (f ≡ record { code = FaultCode.TooMany; place = Some p; variable = None })) ⊎ ((n ≤ 1000000) × (64 ≤ d) × (f ≡ record { code = FaultCode.TooDeep; place = Some p; variable = None }))
    go true e y j = let many : 1000000 < n = grind (arith, nat_tests, e) in inl (many, err_same (sym h ∙ within_many p n d t many))
    go false e true j = let few : n ≤ 1000000 = grind (arith, nat_tests, e) in let deep : 64 ≤ d = grind (arith, nat_tests, j) in inr (few, deep, err_same (sym h ∙ within_deep p n d t few deep))
    go false e false j = let few : n ≤ 1000000 = grind (arith, nat_tests, e) in let low : d < 64 = grind (arith, nat_tests, j) in absurd (ok_err (sym (within_ok p n d t few low) ∙ h))

module _ (p : Place) (lists : List (List Tree)) (vs : List Tree) (several : length lists ≡ 1 → ⊥) (rise : AllRise lists) (long : length vs ≡ length (choices lists)) where
  few_names : names_in (choices lists) ≤ most_pairs (tuples_of lists)
  few_names = some_names (choices lists)

  all_names : most_pairs (tuples_of lists) ≤ names_in (choices lists)
  all_names =
      let ks = counted_up (length lists) (pos 1) in
      let l = length-counted_up (length lists) (pos 1) in
      let m : most_pairs (tuples_of lists) ≤ length ks = subst (λ us. most_pairs us ≤ length ks) (sym (tuples_are lists)) (most-functions_by ks lists l) in
      names_or_none (length lists) (choices lists) (long-choices lists) (omega arith)

  same_arguments : arguments (fun_of (zip (tuples_of lists) vs)) ≡ tuples_of lists
  same_arguments =
      let ts = tuples_of lists in
      arguments-fun_of (zip ts vs) ∙ ap set_of (arguments_zip ts vs (long ∙ sym (length-map (choices lists) sequence))) ∙ tuples_rise lists rise

  same_count : length (fun_of (zip (tuples_of lists) vs)) ≡ length (tuples_of lists)
  same_count = sym (length-map (fun_of (zip (tuples_of lists) vs)) (λ q. q.0)) ∙ ap length same_arguments

  on_tuples : function_on p (choices lists) vs ≡ within p (max (length (fun_of (zip (tuples_of lists) vs))) (names_in (choices lists))) (deepest_pair (pairs (fun_of (zip (tuples_of lists) vs)))) (fun (pairs (fun_of (zip (tuples_of lists) vs))))
  on_tuples = ap (λ us. within p (max (length (fun_of (zip us vs))) (names_in (choices lists))) (deepest_pair (pairs (fun_of (zip us vs)))) (fun (pairs (fun_of (zip us vs))))) (tuple_arguments (length lists) (choices lists) several (long-choices lists))

  -- with the tuples that the call built
  pub domain_made : (dom : List Tree) → make_function_set p (tuples_of lists) ≡ Ok (set (trees dom)) → function_on p (choices lists) vs ≡ make_fun p (zip dom vs)
  domain_made dom h =
      let ts = tuples_of lists in
      let w : trees (set_of ts) ≡ trees dom = set-same _ _ (within-ok p (size_of_functions (set_of ts)) (deepest (trees (set_of ts))) (set (trees (set_of ts))) (set (trees dom)) h) in
      let same : ts ≡ dom = sym (tuples_rise lists rise) ∙ sym (members-trees (set_of ts)) ∙ ap members w ∙ members-trees dom in
      let few : max (length (set_of ts)) (most_pairs (set_of ts)) ≤ 1000000 = within_few p (size_of_functions (set_of ts)) (deepest (trees (set_of ts))) (set (trees (set_of ts))) (set (trees dom)) h in
      let most : most_pairs ts ≤ 1000000 = subst (λ us. most_pairs us ≤ 1000000) (tuples_rise lists rise) (omega (arith, few)) in
      on_tuples
      ∙ within_less p (length (fun_of (zip ts vs))) (names_in (choices lists)) (deepest_pair (pairs (fun_of (zip ts vs)))) (fun (pairs (fun_of (zip ts vs)))) (omega (arith, most, few_names))
      ∙ ap (λ us. make_fun p (zip us vs)) same

  -- why there are none
  pub domain_refused : (f : Fault) → make_function_set p (tuples_of lists) ≡ Err f → function_on p (choices lists) vs ≡ Err f
  domain_refused f h =
      let ts = tuples_of lists in
      let same = tuples_rise lists rise in
      let count : length (set_of ts) ≡ length ts = ap length same in
      let most : most_pairs (set_of ts) ≡ most_pairs ts = ap most_pairs same in
      let deep : deepest (trees (set_of ts)) ≤ deepest_pair (pairs (fun_of (zip ts vs))) = subst (λ us. deepest (trees us) ≤ deepest_pair (pairs (fun_of (zip ts vs)))) (same_arguments ∙ sym same) (deepest_argument (fun_of (zip ts vs))) in
      let ps = fun_of (zip ts vs) in
      let n = max (length ps) (names_in (choices lists)) in
      on_tuples ∙ ⊎_elim
      (λ m. within_many p n (deepest_pair (pairs ps)) (fun (pairs ps)) (omega (arith, m.0, count, most, all_names, same_count)) ∙ ap (λ g. Err g) (sym m.1))
      (λ m. within_deep p n (deepest_pair (pairs ps)) (fun (pairs ps)) (omega (arith, m.0, count, most, few_names, same_count)) (omega (arith, m.1, deep)) ∙ ap (λ g. Err g) (sym m.2))
      (within_fault p (size_of_functions (set_of ts)) (deepest (trees (set_of ts))) (set (trees (set_of ts))) f h)

module _ (p : Place) (ts vs : List Tree) (lists : List (List Tree)) (are : each (as_set p) ts ≡ Ok lists) (several : length ts ≡ 1 → ⊥) (rise : AllRise lists) (long : length vs ≡ length (choices lists)) where
  several_lists : length lists ≡ 1 → ⊥
  several_lists e = several (sym (each_long (as_set p) ts lists are) ∙ e)

  pub tuples_long : (dom : List Tree) → dom ≡ set_of (tuples_of lists) → length dom ≡ length vs
  tuples_long dom is = ap length (is ∙ tuples_rise lists rise) ∙ length-map (choices lists) sequence ∙ sym long

  pub tuples_made : (dom : List Tree) (ps : List (Tree × Tree)) → dom ≡ set_of (tuples_of lists) → IsValue (set (trees (set_of (tuples_of lists)))) → ps ≡ zip dom vs → function_rule p ts vs ≡ make_fun p ps
  tuples_made dom ps is value pairs_are =
      let us = set_of (tuples_of lists) in
      let h : make_function_set p (tuples_of lists) ≡ Ok (set (trees dom)) = functions_made p us value ∙ ap (λ ws. Ok (set (trees ws))) (sym is) in
      rule_is p ts vs lists are ∙ domain_made p lists vs several_lists rise long dom h ∙ ap (make_fun p) (sym pairs_are)

  pub tuples_refused : (e : ValueError) (f : Fault) → IsRefusal e p f → RefusesSetOfSize (max (length (set_of (tuples_of lists))) (most_pairs (set_of (tuples_of lists)))) (set_of (tuples_of lists)) e → (f ≡ out_of_memory) ⊎ (function_rule p ts vs ≡ Err f)
  tuples_refused e f is r =
      ⊎_elim (λ m. inl m) (λ h. inr (rule_is p ts vs lists are ∙ domain_refused p lists vs several_lists rise long f h)) (functions_refused e p f (set_of (tuples_of lists)) is r)
