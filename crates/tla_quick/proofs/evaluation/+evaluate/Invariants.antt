use Rattle.std.proofs.Common.{◌≡◌, ℕ, ◌+◌, ◌*◌, ◌^◌, length, ◌++◌, ◌∷◌, [], max, map, drop, List, Bor, Ok}
use Rattle.tla_value.specs.TreeOf.{tree_of, pair_of}
use Rattle.tla_value.specs.Tree.{Tree}
use Rattle.tla_value.specs.Choices.{choices}
use Rattle.tla_value.specs.declared.value.Value.{Value}
use Rattle.tla_core.specs.Fault.{Outcome, ◌>>=◌}
use Rattle.tla_core.specs.declared.fault.Place.{Place}
use Rattle.tla_core.specs.Lists.{each, all_hold, some_hold, first_passing, passing}
use Rattle.tla_core.specs.Meaning.{Meaning, asks}
use Rattle.tla_core.specs.Functions.{update_all}
use Rattle.tla_core.specs.SetForms.{field_has, parts_have}
use Rattle.tla_core.specs.Expr.{cases}
use Rattle.tla_core.specs.Value.{means, mean_all, mean_fields, mean_updates}
use Rattle.tla_code.specs.declared.code.Code.{size-Code}
use Rattle.tla_code.specs.Forms.{arms_in}
use Rattle.tla_code.specs.Private.Listed.{exprs_of_codes, fields_of_codes, updates_of_codes}
use Rattle.tla_operators.specs.Evaluated.{tree_of_evaluated}
use Rattle.tla_operators.specs.Gathered.{then_more, IsGathered}
use Rattle.tla_sets.specs.Elements.{elements_of}
use Rattle.tla_eval.specs.Private.Parts.{named_value}
use Rattle.tla_quick.specs.Private.Environment.{bound_in, present_in, next_in, scope_in, code_in, value_in, has_in}
use Rattle.tla_quick.proofs.evaluation.+evaluate.Given as goal

-- ---- the measure: the depth of the rest, then an order of the functions
abbrev pub decreases-value : goal.decreases-value
decreases-value l = 2 ^ 66 * size-Code l.code.now + 2

abbrev pub decreases-value_of_form : goal.decreases-value_of_form
decreases-value_of_form l = 2 ^ 66 * size-Code l.code.now + 1

abbrev pub decreases-value_of_other : goal.decreases-value_of_other
decreases-value_of_other l = 2 ^ 66 * size-Code l.code.now

abbrev pub decreases-truth : goal.decreases-truth
decreases-truth l = 2 ^ 66 * size-Code l.code.now + 3

abbrev pub decreases-has : goal.decreases-has
decreases-has l = 2 ^ 66 * size-Code l.code.now + 3

abbrev pub decreases-elements : goal.decreases-elements
decreases-elements l = 2 ^ 66 * size-Code l.code.now + 3

abbrev pub decreases-elements_of_two : goal.decreases-elements_of_two
decreases-elements_of_two l = 2 ^ 66 * max (size-Code l.left.now) (size-Code l.right.now) + 22

abbrev pub decreases-operands::value_of_one : goal.decreases-operands::value_of_one
decreases-operands::value_of_one l = 2 ^ 66 * size-Code l.operand.now + 10

abbrev pub decreases-operands::value_of_two : goal.decreases-operands::value_of_two
decreases-operands::value_of_two l = 2 ^ 66 * max (size-Code l.left.now) (size-Code l.right.now) + 21

abbrev pub decreases-operands::value_of_three : goal.decreases-operands::value_of_three
decreases-operands::value_of_three l = 2 ^ 66 * max (size-Code l.first.now) (max (size-Code l.second.now) (size-Code l.third.now)) + 10

abbrev pub decreases-logic::truth_of_one : goal.decreases-logic::truth_of_one
decreases-logic::truth_of_one l = 2 ^ 66 * size-Code l.operand.now + 10

abbrev pub decreases-logic::truth_of_two : goal.decreases-logic::truth_of_two
decreases-logic::truth_of_two l = 2 ^ 66 * max (size-Code l.left.now) (size-Code l.right.now) + 20

abbrev pub decreases-logic::is_member : goal.decreases-logic::is_member
decreases-logic::is_member l = 2 ^ 66 * max (size-Code l.left.now) (size-Code l.right.now) + 12

abbrev pub decreases-logic::compared_with : goal.decreases-logic::compared_with
decreases-logic::compared_with l = 2 ^ 66 * size-Code l.right.now + 10

abbrev pub decreases-logic::truth_of_three : goal.decreases-logic::truth_of_three
decreases-logic::truth_of_three l = 2 ^ 66 * max (size-Code l.first.now) (max (size-Code l.second.now) (size-Code l.third.now)) + 10

abbrev pub decreases-logic::truth_of_list : goal.decreases-logic::truth_of_list
decreases-logic::truth_of_list l = 2 ^ 66 * goal.size-logic::truth_of_list l + 12

abbrev pub decreases-logic::all_are_true : goal.decreases-logic::all_are_true
decreases-logic::all_are_true l = 2 ^ 66 * goal.size-logic::all_are_true l + 11

abbrev pub decreases-logic::some_is_true : goal.decreases-logic::some_is_true
decreases-logic::some_is_true l = 2 ^ 66 * goal.size-logic::some_is_true l + 11

abbrev pub decreases-logic::has_all : goal.decreases-logic::has_all
decreases-logic::has_all l = 2 ^ 66 * size-Code l.code.now + 5

abbrev pub decreases-lists::value_of_list : goal.decreases-lists::value_of_list
decreases-lists::value_of_list l = 2 ^ 66 * goal.size-lists::value_of_list l + 13

abbrev pub decreases-lists::values_of : goal.decreases-lists::values_of
decreases-lists::values_of l = 2 ^ 66 * goal.size-lists::values_of l + 5

abbrev pub decreases-lists::taken_part : goal.decreases-lists::taken_part
decreases-lists::taken_part l = 2 ^ 66 * goal.size-lists::taken_part l + 5

abbrev pub decreases-lists::evaluated_each : goal.decreases-lists::evaluated_each
decreases-lists::evaluated_each l = 2 ^ 66 * goal.size-lists::evaluated_each l + 5

abbrev pub decreases-binding::truth_of_binder : goal.decreases-binding::truth_of_binder
decreases-binding::truth_of_binder l = 2 ^ 66 * max (size-Code l.set.now) (size-Code l.body.now) + 20

abbrev pub decreases-binding::value_of_binder : goal.decreases-binding::value_of_binder
decreases-binding::value_of_binder l = 2 ^ 66 * max (size-Code l.set.now) (size-Code l.body.now) + 21

abbrev pub decreases-binding::each_holds : goal.decreases-binding::each_holds
decreases-binding::each_holds l = 2 ^ 66 * size-Code l.body.now + 8

abbrev pub decreases-binding::some_holds : goal.decreases-binding::some_holds
decreases-binding::some_holds l = 2 ^ 66 * size-Code l.body.now + 8

abbrev pub decreases-binding::first_passing : goal.decreases-binding::first_passing
decreases-binding::first_passing l = 2 ^ 66 * size-Code l.body.now + 8

abbrev pub decreases-binding::passing : goal.decreases-binding::passing
decreases-binding::passing l = 2 ^ 66 * size-Code l.body.now + 8

abbrev pub decreases-binding::holds_at : goal.decreases-binding::holds_at
decreases-binding::holds_at l = 2 ^ 66 * size-Code l.body.now + 7

abbrev pub decreases-binding::truth_with : goal.decreases-binding::truth_with
decreases-binding::truth_with l = 2 ^ 66 * size-Code l.body.now + 6

abbrev pub decreases-binding::value_with : goal.decreases-binding::value_with
decreases-binding::value_with l = 2 ^ 66 * size-Code l.body.now + 6

abbrev pub decreases-choices::value_with_all : goal.decreases-choices::value_with_all
decreases-choices::value_with_all l = 2 ^ 66 * size-Code l.body.now + 6

abbrev pub decreases-definitions::value_of_let : goal.decreases-definitions::value_of_let
decreases-definitions::value_of_let l = 2 ^ 66 * max (size-Code l.definition.now) (size-Code l.body.now) + 20

abbrev pub decreases-definitions::value_under : goal.decreases-definitions::value_under
decreases-definitions::value_under l = 2 ^ 66 * size-Code l.body.now + 6

abbrev pub decreases-definitions::truth_of_let : goal.decreases-definitions::truth_of_let
decreases-definitions::truth_of_let l = 2 ^ 66 * max (size-Code l.definition.now) (size-Code l.body.now) + 20

abbrev pub decreases-definitions::truth_under : goal.decreases-definitions::truth_under
decreases-definitions::truth_under l = 2 ^ 66 * size-Code l.body.now + 6

abbrev pub decreases-definitions::has_of_let : goal.decreases-definitions::has_of_let
decreases-definitions::has_of_let l = 2 ^ 66 * max (size-Code l.definition.now) (size-Code l.body.now) + 20

abbrev pub decreases-definitions::has_under : goal.decreases-definitions::has_under
decreases-definitions::has_under l = 2 ^ 66 * size-Code l.body.now + 6

abbrev pub decreases-asked::has_of_one : goal.decreases-asked::has_of_one
decreases-asked::has_of_one l = 2 ^ 66 * size-Code l.operand.now + 10

abbrev pub decreases-asked::has_of_two : goal.decreases-asked::has_of_two
decreases-asked::has_of_two l = 2 ^ 66 * max (size-Code l.left.now) (size-Code l.right.now) + 20

abbrev pub decreases-asked::has_of_three : goal.decreases-asked::has_of_three
decreases-asked::has_of_three l = 2 ^ 66 * max (size-Code l.first.now) (max (size-Code l.second.now) (size-Code l.third.now)) + 10

abbrev pub decreases-asked::has_in_list : goal.decreases-asked::has_in_list
decreases-asked::has_in_list l = 2 ^ 66 * goal.size-asked::has_in_list l + 12

abbrev pub decreases-asked::has_in_binder : goal.decreases-asked::has_in_binder
decreases-asked::has_in_binder l = 2 ^ 66 * max (size-Code l.set.now) (size-Code l.body.now) + 20

abbrev pub decreases-asked::is_function_into : goal.decreases-asked::is_function_into
decreases-asked::is_function_into l = 2 ^ 66 * max (size-Code l.domain.now) (size-Code l.range.now) + 12

abbrev pub decreases-asked::is_tuple_of : goal.decreases-asked::is_tuple_of
decreases-asked::is_tuple_of l = 2 ^ 66 * goal.size-asked::is_tuple_of l + 9

abbrev pub decreases-asked::parts_have : goal.decreases-asked::parts_have
decreases-asked::parts_have l = 2 ^ 66 * goal.size-asked::parts_have l + 8

abbrev pub decreases-fields::value_of_fields : goal.decreases-fields::value_of_fields
decreases-fields::value_of_fields l = 2 ^ 66 * goal.size-fields::value_of_fields l + 12

abbrev pub decreases-fields::named_values : goal.decreases-fields::named_values
decreases-fields::named_values l = 2 ^ 66 * goal.size-fields::named_values l + 5

abbrev pub decreases-updates::value_of_except : goal.decreases-updates::value_of_except
decreases-updates::value_of_except l = 2 ^ 66 * max (size-Code l.base.now) (goal.size-updates::value_of_except l) + 2 ^ 65 + 10

abbrev pub decreases-updates::updated_by_all : goal.decreases-updates::updated_by_all
decreases-updates::updated_by_all l = 2 ^ 66 * goal.size-updates::updated_by_all l + 2 ^ 65 + 9

abbrev pub decreases-updates::updated : goal.decreases-updates::updated
decreases-updates::updated l = 2 ^ 66 * max (goal.size-updates::updated l) (size-Code l.body.now) + 2 * length l.keys.now + 8

abbrev pub decreases-updates::updated_at : goal.decreases-updates::updated_at
decreases-updates::updated_at l = 2 ^ 66 * max (size-Code l.key.now) (max (goal.size-updates::updated_at l) (size-Code l.body.now)) + 2 * length l.rest.now + 9

abbrev pub decreases-updates::opened : goal.decreases-updates::opened
decreases-updates::opened l = 2 ^ 66 * size-Code l.body.now + 10

abbrev pub decreases-choices::value_of_map : goal.decreases-choices::value_of_map
decreases-choices::value_of_map l = 2 ^ 66 * max (goal.size-choices::value_of_map l) (size-Code l.body.now) + 30

abbrev pub decreases-choices::image : goal.decreases-choices::image
decreases-choices::image l = 2 ^ 66 * max (goal.size-choices::image l) (size-Code l.body.now) + 29

abbrev pub decreases-choices::function : goal.decreases-choices::function
decreases-choices::function l = 2 ^ 66 * max (goal.size-choices::function l) (size-Code l.body.now) + 29

abbrev pub decreases-choices::function_for : goal.decreases-choices::function_for
decreases-choices::function_for l = 2 ^ 66 * size-Code l.body.now + 11

abbrev pub decreases-choices::chosen : goal.decreases-choices::chosen
decreases-choices::chosen l = 2 ^ 66 * size-Code l.body.now + 10

abbrev pub decreases-choices::chosen_once : goal.decreases-choices::chosen_once
decreases-choices::chosen_once l = 2 ^ 66 * size-Code l.body.now + 10

abbrev pub decreases-choices::value_for : goal.decreases-choices::value_for
decreases-choices::value_for l = 2 ^ 66 * size-Code l.body.now + 9

abbrev pub decreases-choices::value_for_member : goal.decreases-choices::value_for_member
decreases-choices::value_for_member l = 2 ^ 66 * size-Code l.body.now + 8

abbrev pub decreases-choices::value_for_choice : goal.decreases-choices::value_for_choice
decreases-choices::value_for_choice l = 2 ^ 66 * size-Code l.body.now + 8

abbrev pub decreases-fields::has_in_fields : goal.decreases-fields::has_in_fields
decreases-fields::has_in_fields l = 2 ^ 66 * goal.size-fields::has_in_fields l + 12

abbrev pub decreases-fields::is_record_of : goal.decreases-fields::is_record_of
decreases-fields::is_record_of l = 2 ^ 66 * goal.size-fields::is_record_of l + 11

abbrev pub decreases-fields::fields_have : goal.decreases-fields::fields_have
decreases-fields::fields_have l = 2 ^ 66 * goal.size-fields::fields_have l + 8

-- ---- the rest of a list decides
abbrev pub invariant-lists::values_of-loop-code : goal.invariant-lists::values_of-loop-code
invariant-lists::values_of-loop-code l =
    each (λ (m : Meaning). m.value (bound_in l.env) (present_in l.env) (next_in l.env)) (mean_all (exprs_of_codes (scope_in l.env) l.codes))
    ≡ (each (λ (m : Meaning). m.value (bound_in l.env) (present_in l.env) (next_in l.env)) (mean_all (exprs_of_codes (scope_in l.env) (drop l.code-index l.codes))) >>= λ ys. Ok (map tree_of l.values.items ++ ys))

abbrev pub invariant-lists::taken_part-loop-arm : goal.invariant-lists::taken_part-loop-arm
invariant-lists::taken_part-loop-arm l = (p : Place) →
    let from = λ (n : ℕ). cases p (arms_in (exprs_of_codes (scope_in l.env) (drop n l.parts))) in
    (value_in l.env (from 0) ≡ value_in l.env (from (2 * l.arm))) × ((v : Tree) → has_in l.env v (from 0) ≡ has_in l.env v (from (2 * l.arm)))

abbrev pub invariant-lists::evaluated_each-loop-code : goal.invariant-lists::evaluated_each-loop-code
invariant-lists::evaluated_each-loop-code l =
    each (λ (m : Meaning). m.value (bound_in l.env) (present_in l.env) (next_in l.env)) (mean_all (exprs_of_codes (scope_in l.env) l.codes))
    ≡ (each (λ (m : Meaning). m.value (bound_in l.env) (present_in l.env) (next_in l.env)) (mean_all (exprs_of_codes (scope_in l.env) (drop l.code-index l.codes))) >>= λ ys. Ok (map tree_of_evaluated l.values.items ++ ys))

abbrev pub invariant-logic::all_are_true-loop-part : goal.invariant-logic::all_are_true-loop-part
invariant-logic::all_are_true-loop-part l = (p : Place) →
    all_hold (λ m. asks p m (bound_in l.env) (present_in l.env) (next_in l.env)) (mean_all (exprs_of_codes (scope_in l.env) l.parts))
    ≡ all_hold (λ m. asks p m (bound_in l.env) (present_in l.env) (next_in l.env)) (mean_all (exprs_of_codes (scope_in l.env) (drop l.part-index l.parts)))

abbrev pub invariant-logic::some_is_true-loop-part : goal.invariant-logic::some_is_true-loop-part
invariant-logic::some_is_true-loop-part l = (p : Place) →
    some_hold (λ m. asks p m (bound_in l.env) (present_in l.env) (next_in l.env)) (mean_all (exprs_of_codes (scope_in l.env) l.parts))
    ≡ some_hold (λ m. asks p m (bound_in l.env) (present_in l.env) (next_in l.env)) (mean_all (exprs_of_codes (scope_in l.env) (drop l.part-index l.parts)))

abbrev pub invariant-logic::has_all-loop-value : goal.invariant-logic::has_all-loop-value
invariant-logic::has_all-loop-value l =
    all_hold (λ v. has_in l.env v (code_in l.env l.code)) (map tree_of l.values)
    ≡ all_hold (λ v. has_in l.env v (code_in l.env l.code)) (map tree_of (drop l.value-index l.values))

abbrev pub invariant-asked::parts_have-loop-i : goal.invariant-asked::parts_have-loop-i
invariant-asked::parts_have-loop-i l =
    parts_have (mean_all (exprs_of_codes (scope_in l.env) l.parts)) (map tree_of l.items) (bound_in l.env) (present_in l.env) (next_in l.env)
    ≡ parts_have (mean_all (exprs_of_codes (scope_in l.env) (drop l.i l.parts))) (map tree_of (drop l.i l.items)) (bound_in l.env) (present_in l.env) (next_in l.env)

abbrev pub invariant-fields::named_values-loop-field : goal.invariant-fields::named_values-loop-field
invariant-fields::named_values-loop-field l =
    each (λ (f : List ℕ × Meaning). named_value f (bound_in l.env) (present_in l.env) (next_in l.env)) (mean_fields (fields_of_codes (scope_in l.env) l.fields))
    ≡ (each (λ (f : List ℕ × Meaning). named_value f (bound_in l.env) (present_in l.env) (next_in l.env)) (mean_fields (fields_of_codes (scope_in l.env) (drop l.field-index l.fields))) >>= λ ys. Ok (map pair_of l.pairs.items ++ ys))

abbrev pub invariant-updates::updated_by_all-loop-update : goal.invariant-updates::updated_by_all-loop-update
invariant-updates::updated_by_all-loop-update l =
    update_all l.place (mean_updates (updates_of_codes (scope_in l.env) l.updates)) (bound_in l.env) (present_in l.env) (next_in l.env) (tree_of_evaluated l.initial.value)
    ≡ update_all l.place (mean_updates (updates_of_codes (scope_in l.env) (drop l.update-index l.updates))) (bound_in l.env) (present_in l.env) (next_in l.env) (tree_of_evaluated l.value)

abbrev pub invariant-binding::passing-loop-number : goal.invariant-binding::passing-loop-number
invariant-binding::passing-loop-number l =
    passing (λ v. asks l.place (means (code_in l.env l.body)) (bound_in l.env ++ v ∷ []) (present_in l.env) (next_in l.env)) (elements_of l.elements)
    ≡ (passing (λ v. asks l.place (means (code_in l.env l.body)) (bound_in l.env ++ v ∷ []) (present_in l.env) (next_in l.env)) (drop l.number (elements_of l.elements)) >>= λ ys. Ok (map tree_of l.kept.items ++ ys))

abbrev pub invariant-binding::each_holds-loop-number : goal.invariant-binding::each_holds-loop-number
invariant-binding::each_holds-loop-number l =
    all_hold (λ v. asks l.place (means (code_in l.env l.body)) (bound_in l.env ++ v ∷ []) (present_in l.env) (next_in l.env)) (elements_of l.elements)
    ≡ all_hold (λ v. asks l.place (means (code_in l.env l.body)) (bound_in l.env ++ v ∷ []) (present_in l.env) (next_in l.env)) (drop l.number (elements_of l.elements))

abbrev pub invariant-binding::some_holds-loop-number : goal.invariant-binding::some_holds-loop-number
invariant-binding::some_holds-loop-number l =
    some_hold (λ v. asks l.place (means (code_in l.env l.body)) (bound_in l.env ++ v ∷ []) (present_in l.env) (next_in l.env)) (elements_of l.elements)
    ≡ some_hold (λ v. asks l.place (means (code_in l.env l.body)) (bound_in l.env ++ v ∷ []) (present_in l.env) (next_in l.env)) (drop l.number (elements_of l.elements))

abbrev pub invariant-binding::first_passing-loop-number : goal.invariant-binding::first_passing-loop-number
invariant-binding::first_passing-loop-number l =
    first_passing l.place (λ v. asks l.place (means (code_in l.env l.body)) (bound_in l.env ++ v ∷ []) (present_in l.env) (next_in l.env)) (elements_of l.elements)
    ≡ first_passing l.place (λ v. asks l.place (means (code_in l.env l.body)) (bound_in l.env ++ v ∷ []) (present_in l.env) (next_in l.env)) (drop l.number (elements_of l.elements))

abbrev pub invariant-choices::chosen-loop-number : goal.invariant-choices::chosen-loop-number
invariant-choices::chosen-loop-number l =
    let f : List Tree → Outcome Tree = λ c. (means (code_in l.env l.body)).value (bound_in l.env ++ c) (present_in l.env) (next_in l.env) in
    let all = choices (map (λ (r : Bor (List Value)). map tree_of r.now) l.lists) in
    each f all ≡ then_more (map tree_of l.values.items) (each f (drop l.number all))

abbrev pub invariant-choices::chosen_once-loop-number : goal.invariant-choices::chosen_once-loop-number
invariant-choices::chosen_once-loop-number l =
    let f : List Tree → Outcome Tree = λ c. (means (code_in l.env l.body)).value (bound_in l.env ++ c) (present_in l.env) (next_in l.env) in
    let all = choices (map (λ (r : Bor (List Value)). map tree_of r.now) l.lists) in
    (kept : List Tree) × IsGathered kept l.values × (each f all ≡ then_more kept (each f (drop l.number all)))

abbrev pub invariant-fields::fields_have-loop-field : goal.invariant-fields::fields_have-loop-field
invariant-fields::fields_have-loop-field l =
    all_hold (field_has l.function (bound_in l.env) (present_in l.env) (next_in l.env)) (mean_fields (fields_of_codes (scope_in l.env) l.fields))
    ≡ all_hold (field_has l.function (bound_in l.env) (present_in l.env) (next_in l.env)) (mean_fields (fields_of_codes (scope_in l.env) (drop l.field-index l.fields)))

-- ---- numbers
abbrev pub decreases-numbers::number : goal.decreases-numbers::number
decreases-numbers::number l = 2 ^ 66 * size-Code l.code.now + 4

abbrev pub decreases-numbers::number_of_two : goal.decreases-numbers::number_of_two
decreases-numbers::number_of_two l = 2 ^ 66 * max (size-Code l.left.now) (size-Code l.right.now) + 19

abbrev pub decreases-numbers::order_of_two : goal.decreases-numbers::order_of_two
decreases-numbers::order_of_two l = 2 ^ 66 * max (size-Code l.left.now) (size-Code l.right.now) + 19
