use Rattle.std.proofs.Common.{◌≡◌, ℕ, ◌+◌, ◌*◌, ◌^◌, length, ◌++◌, ◌∷◌, [], max, map, drop, Option, Some, None, option_map, Bor, List, Ok}
use Rattle.tla_value.specs.TreeOf.{tree_of, pair_of}
use Rattle.tla_core.specs.Lists.{each, all_hold, some_hold, first_passing, passing}
use Rattle.tla_core.specs.Fault.{◌>>=◌, Outcome}
use Rattle.tla_eval.specs.Private.Parts.{named_value, nothing_of}
use Rattle.tla_operators.specs.Gathered.{then_more, IsGathered}
use Rattle.tla_value.specs.Choices.{parts_of, choices}
use Rattle.tla_core.specs.SetForms.{field_has, parts_have}
use Rattle.tla_core.specs.Meaning.{Meaning, asks}
use Rattle.tla_core.specs.Logic.{means-cases}
use Rattle.tla_core.specs.Functions.{update_all}
use Rattle.tla_value.specs.Tree.{Tree}
use Rattle.tla_value.specs.declared.value.Value.{Value}
use Rattle.tla_core.specs.Value.{means, mem}
use Rattle.tla_core.specs.ExprOf.{expr_of, parts_of_cores, fields_of_cores, arms_of_cores, updates_of_cores}
use Rattle.tla_operators.specs.Evaluated.{tree_of_evaluated}
use Rattle.tla_eval.specs.Private.Environment.{bound_in, present_in, next_in}
use Rattle.tla_eval.specs.Private.Wheels.{IsReady, left_of}
use Rattle.tla_sets.specs.Elements.{elements_of}
use Rattle.tla_core.specs.declared.expression.Core.{Core, size-Core}
use Rattle.tla_eval.proofs.evaluation.+evaluate.Given as goal

-- ---- the measure: the depth of the rest, then an order of the functions
abbrev size_of_other : Option (Bor Core) → ℕ
size_of_other None = 0
size_of_other (Some core) = size-Core core.now

abbrev pub decreases-evaluate : goal.decreases-evaluate
decreases-evaluate l = 2 ^ 66 * size-Core l.core.now + 3

abbrev pub decreases-evaluate_usual : goal.decreases-evaluate_usual
decreases-evaluate_usual l = 2 ^ 66 * size-Core l.core.now + 2

abbrev pub decreases-evaluate_logic : goal.decreases-evaluate_logic
decreases-evaluate_logic l = 2 ^ 66 * size-Core l.core.now + 1

abbrev pub decreases-evaluate_other : goal.decreases-evaluate_other
decreases-evaluate_other l = 2 ^ 66 * size-Core l.core.now

abbrev pub decreases-ask : goal.decreases-ask
decreases-ask l = 2 ^ 66 * size-Core l.core.now + 7

abbrev pub decreases-has : goal.decreases-has
decreases-has l = 2 ^ 66 * size-Core l.core.now + 5

abbrev pub decreases-has_other : goal.decreases-has_other
decreases-has_other l = 2 ^ 66 * size-Core l.core.now + 4

abbrev pub decreases-membership::has_all : goal.decreases-membership::has_all
decreases-membership::has_all l = 2 ^ 66 * size-Core l.core.now + 7

abbrev pub decreases-binding::ask_with : goal.decreases-binding::ask_with
decreases-binding::ask_with l = 2 ^ 66 * size-Core l.body.now + 8

abbrev pub decreases-binding::elements_in : goal.decreases-binding::elements_in
decreases-binding::elements_in l = 2 ^ 66 * size-Core l.set.now + 6

abbrev pub decreases-binding::holds_at : goal.decreases-binding::holds_at
decreases-binding::holds_at l = 2 ^ 66 * size-Core l.body.now + 9

abbrev pub decreases-binding::each_holds : goal.decreases-binding::each_holds
decreases-binding::each_holds l = 2 ^ 66 * size-Core l.body.now + 10

abbrev pub decreases-binding::some_holds : goal.decreases-binding::some_holds
decreases-binding::some_holds l = 2 ^ 66 * size-Core l.body.now + 10

abbrev pub decreases-binding::first_passing : goal.decreases-binding::first_passing
decreases-binding::first_passing l = 2 ^ 66 * size-Core l.body.now + 10

abbrev pub decreases-patterns::body_value : goal.decreases-patterns::body_value
decreases-patterns::body_value l = 2 ^ 66 * size-Core l.body.now + 6

abbrev pub decreases-patterns::opened : goal.decreases-patterns::opened
decreases-patterns::opened l = 2 ^ 66 * size-Core l.body.now + 9

abbrev pub decreases-patterns::tried : goal.decreases-patterns::tried
decreases-patterns::tried l = 2 ^ 66 * size-Core l.set.now + 9

abbrev pub decreases-operands::on_one : goal.decreases-operands::on_one
decreases-operands::on_one l = 2 ^ 66 * size-Core l.operand.now + 9

abbrev pub decreases-logic::assert : goal.decreases-logic::assert
decreases-logic::assert l = 2 ^ 66 * size-Core l.condition.now + 9

abbrev pub decreases-operands::on_two : goal.decreases-operands::on_two
decreases-operands::on_two l = 2 ^ 66 * max (size-Core l.left.now) (size-Core l.right.now) + 9

abbrev pub decreases-operands::applied : goal.decreases-operands::applied
decreases-operands::applied l = 2 ^ 66 * max (size-Core l.function.now) (size-Core l.argument.now) + 9

abbrev pub decreases-operands::equal : goal.decreases-operands::equal
decreases-operands::equal l = 2 ^ 66 * max (size-Core l.left.now) (size-Core l.right.now) + 9

abbrev pub decreases-logic::implies : goal.decreases-logic::implies
decreases-logic::implies l = 2 ^ 66 * max (size-Core l.left.now) (size-Core l.right.now) + 9

abbrev pub decreases-binding::for_all : goal.decreases-binding::for_all
decreases-binding::for_all l = 2 ^ 66 * max (size-Core l.set.now) (size-Core l.body.now) + 11

abbrev pub decreases-binding::for_some : goal.decreases-binding::for_some
decreases-binding::for_some l = 2 ^ 66 * max (size-Core l.set.now) (size-Core l.body.now) + 11

abbrev pub decreases-binding::choose : goal.decreases-binding::choose
decreases-binding::choose l = 2 ^ 66 * max (size-Core l.set.now) (size-Core l.body.now) + 11

abbrev pub decreases-membership::is_member : goal.decreases-membership::is_member
decreases-membership::is_member l = 2 ^ 66 * max (size-Core l.element.now) (size-Core l.set.now) + 9

abbrev pub decreases-membership::is_no_member : goal.decreases-membership::is_no_member
decreases-membership::is_no_member l = 2 ^ 66 * max (size-Core l.element.now) (size-Core l.set.now) + 9

abbrev pub decreases-membership::is_subset : goal.decreases-membership::is_subset
decreases-membership::is_subset l = 2 ^ 66 * max (size-Core l.left.now) (size-Core l.right.now) + 9

abbrev pub decreases-membership::two_hold : goal.decreases-membership::two_hold
decreases-membership::two_hold l = 2 ^ 66 * max (size-Core l.left.now) (size-Core l.right.now) + 9

abbrev pub decreases-membership::is_one_of : goal.decreases-membership::is_one_of
decreases-membership::is_one_of l = 2 ^ 66 * goal.size-membership::is_one_of l + 9

abbrev pub decreases-membership::cup : goal.decreases-membership::cup
decreases-membership::cup l = 2 ^ 66 * max (size-Core l.left.now) (size-Core l.right.now) + 9

abbrev pub decreases-membership::cap : goal.decreases-membership::cap
decreases-membership::cap l = 2 ^ 66 * max (size-Core l.left.now) (size-Core l.right.now) + 9

abbrev pub decreases-logic::conjunction : goal.decreases-logic::conjunction
decreases-logic::conjunction l = 2 ^ 66 * goal.size-logic::conjunction l + 9

abbrev pub decreases-logic::disjunction : goal.decreases-logic::disjunction
decreases-logic::disjunction l = 2 ^ 66 * goal.size-logic::disjunction l + 9

abbrev pub decreases-membership::minus : goal.decreases-membership::minus
decreases-membership::minus l = 2 ^ 66 * max (size-Core l.left.now) (size-Core l.right.now) + 9

abbrev pub decreases-operands::field_of : goal.decreases-operands::field_of
decreases-operands::field_of l = 2 ^ 66 * size-Core l.base.now + 9

abbrev pub decreases-operands::part_of : goal.decreases-operands::part_of
decreases-operands::part_of l = 2 ^ 66 * max (size-Core l.sequence.now) (max (size-Core l.low.now) (size-Core l.high.now)) + 9

abbrev pub decreases-logic::cases : goal.decreases-logic::cases
decreases-logic::cases l = 2 ^ 66 * max (goal.size-logic::cases l) (size_of_other l.other) + 9

abbrev pub decreases-logic::cases_have : goal.decreases-logic::cases_have
decreases-logic::cases_have l = 2 ^ 66 * max (goal.size-logic::cases_have l) (size_of_other l.other) + 9

abbrev pub decreases-operands::values_of : goal.decreases-operands::values_of
decreases-operands::values_of l = 2 ^ 66 * goal.size-operands::values_of l + 6

abbrev pub decreases-operands::named_values : goal.decreases-operands::named_values
decreases-operands::named_values l = 2 ^ 66 * goal.size-operands::named_values l + 6

abbrev pub decreases-operands::enumerated : goal.decreases-operands::enumerated
decreases-operands::enumerated l = 2 ^ 66 * goal.size-operands::enumerated l + 9

abbrev pub decreases-operands::tuple : goal.decreases-operands::tuple
decreases-operands::tuple l = 2 ^ 66 * goal.size-operands::tuple l + 9

abbrev pub decreases-operands::record_of : goal.decreases-operands::record_of
decreases-operands::record_of l = 2 ^ 66 * goal.size-operands::record_of l + 9

abbrev pub decreases-binding::value_with : goal.decreases-binding::value_with
decreases-binding::value_with l = 2 ^ 66 * size-Core l.body.now + 7

abbrev pub decreases-binding::filter : goal.decreases-binding::filter
decreases-binding::filter l = 2 ^ 66 * max (size-Core l.set.now) (size-Core l.body.now) + 11

abbrev pub decreases-binding::passing : goal.decreases-binding::passing
decreases-binding::passing l = 2 ^ 66 * size-Core l.body.now + 10

-- several names
abbrev pub decreases-choices::image : goal.decreases-choices::image
decreases-choices::image l = 2 ^ 66 * max (goal.size-choices::image l) (size-Core l.body.now) + 11

abbrev pub decreases-choices::function : goal.decreases-choices::function
decreases-choices::function l = 2 ^ 66 * max (goal.size-choices::function l) (size-Core l.body.now) + 12

abbrev pub decreases-choices::function_on_members : goal.decreases-choices::function_on_members
decreases-choices::function_on_members l = 2 ^ 66 * size-Core l.body.now + 11

abbrev pub decreases-choices::function_on_tuples : goal.decreases-choices::function_on_tuples
decreases-choices::function_on_tuples l = 2 ^ 66 * size-Core l.body.now + 11

abbrev pub decreases-choices::evaluated_each : goal.decreases-choices::evaluated_each
decreases-choices::evaluated_each l = 2 ^ 66 * goal.size-choices::evaluated_each l + 6

abbrev pub decreases-choices::chosen : goal.decreases-choices::chosen
decreases-choices::chosen l = 2 ^ 66 * size-Core l.body.now + 10

abbrev pub decreases-choices::chosen_once : goal.decreases-choices::chosen_once
decreases-choices::chosen_once l = 2 ^ 66 * size-Core l.body.now + 10

abbrev pub decreases-choices::pass_over : goal.decreases-choices::pass_over
decreases-choices::pass_over l = 2 ^ 66 * size-Core l.body.now + 10

abbrev pub decreases-choices::value_with_all : goal.decreases-choices::value_with_all
decreases-choices::value_with_all l = 2 ^ 66 * size-Core l.body.now + 7

-- updates: then the number of keys left
abbrev pub decreases-updates::except : goal.decreases-updates::except
decreases-updates::except l = 2 ^ 66 * max (size-Core l.base.now) (goal.size-updates::except l) + 2 ^ 65 + 10

abbrev pub decreases-updates::updated_by_all : goal.decreases-updates::updated_by_all
decreases-updates::updated_by_all l = 2 ^ 66 * goal.size-updates::updated_by_all l + 2 ^ 65 + 9

abbrev pub decreases-updates::updated : goal.decreases-updates::updated
decreases-updates::updated l = 2 ^ 66 * max (goal.size-updates::updated l) (size-Core l.body.now) + 2 * length l.keys.now + 8

abbrev pub decreases-updates::updated_at : goal.decreases-updates::updated_at
decreases-updates::updated_at l = 2 ^ 66 * max (size-Core l.key.now) (max (goal.size-updates::updated_at l) (size-Core l.body.now)) + 2 * length l.rest.now + 9

-- sets
abbrev pub decreases-set_forms::power : goal.decreases-set_forms::power
decreases-set_forms::power l = 2 ^ 66 * size-Core l.set.now + 9

abbrev pub decreases-set_forms::functions : goal.decreases-set_forms::functions
decreases-set_forms::functions l = 2 ^ 66 * max (size-Core l.domain.now) (size-Core l.range.now) + 9

abbrev pub decreases-set_forms::is_set_within : goal.decreases-set_forms::is_set_within
decreases-set_forms::is_set_within l = 2 ^ 66 * size-Core l.core.now + 8

abbrev pub decreases-set_forms::is_sequence_of : goal.decreases-set_forms::is_sequence_of
decreases-set_forms::is_sequence_of l = 2 ^ 66 * size-Core l.core.now + 8

abbrev pub decreases-set_forms::is_function_into : goal.decreases-set_forms::is_function_into
decreases-set_forms::is_function_into l = 2 ^ 66 * max (size-Core l.domain.now) (size-Core l.range.now) + 8

-- products
abbrev pub decreases-products::records : goal.decreases-products::records
decreases-products::records l = 2 ^ 66 * goal.size-products::records l + 9

abbrev pub decreases-products::field_sets : goal.decreases-products::field_sets
decreases-products::field_sets l = 2 ^ 66 * goal.size-products::field_sets l + 6

abbrev pub decreases-products::product : goal.decreases-products::product
decreases-products::product l = 2 ^ 66 * goal.size-products::product l + 9

abbrev pub decreases-products::is_record_of : goal.decreases-products::is_record_of
decreases-products::is_record_of l = 2 ^ 66 * goal.size-products::is_record_of l + 9

abbrev pub decreases-products::fields_have : goal.decreases-products::fields_have
decreases-products::fields_have l = 2 ^ 66 * goal.size-products::fields_have l + 8

abbrev pub decreases-products::is_tuple_of : goal.decreases-products::is_tuple_of
decreases-products::is_tuple_of l = 2 ^ 66 * goal.size-products::is_tuple_of l + 9

abbrev pub decreases-products::parts_have : goal.decreases-products::parts_have
decreases-products::parts_have l = 2 ^ 66 * goal.size-products::parts_have l + 8

-- ---- the rest of a list decides
abbrev pub invariant-products::field_sets-loop-field : goal.invariant-products::field_sets-loop-field
invariant-products::field_sets-loop-field l =
    each (λ (m : Meaning). m.value (bound_in l.env) (present_in l.env) (next_in l.env)) (parts_of (fields_of_cores l.fields))
    ≡ (each (λ (m : Meaning). m.value (bound_in l.env) (present_in l.env) (next_in l.env)) (parts_of (fields_of_cores (drop l.field-index l.fields))) >>= λ ys. Ok (map tree_of_evaluated l.values.items ++ ys))

abbrev pub invariant-products::fields_have-loop-field : goal.invariant-products::fields_have-loop-field
invariant-products::fields_have-loop-field l =
    all_hold (field_has l.function (bound_in l.env) (present_in l.env) (next_in l.env)) (fields_of_cores l.fields)
    ≡ all_hold (field_has l.function (bound_in l.env) (present_in l.env) (next_in l.env)) (fields_of_cores (drop l.field-index l.fields))

abbrev pub invariant-products::parts_have-loop-i : goal.invariant-products::parts_have-loop-i
invariant-products::parts_have-loop-i l =
    parts_have (parts_of_cores l.parts) (map tree_of l.items) (bound_in l.env) (present_in l.env) (next_in l.env)
    ≡ parts_have (parts_of_cores (drop l.i l.parts)) (map tree_of (drop l.i l.items)) (bound_in l.env) (present_in l.env) (next_in l.env)

abbrev pub invariant-binding::passing-loop-number : goal.invariant-binding::passing-loop-number
invariant-binding::passing-loop-number l =
    passing (λ v. asks l.place (means (expr_of l.body)) (bound_in l.env ++ v ∷ []) (present_in l.env) (next_in l.env)) (elements_of l.elements)
    ≡ (passing (λ v. asks l.place (means (expr_of l.body)) (bound_in l.env ++ v ∷ []) (present_in l.env) (next_in l.env)) (drop l.number (elements_of l.elements)) >>= λ ys. Ok (map tree_of l.kept.items ++ ys))

abbrev pub invariant-choices::evaluated_each-loop-core : goal.invariant-choices::evaluated_each-loop-core
invariant-choices::evaluated_each-loop-core l =
    each (λ (m : Meaning). m.value (bound_in l.env) (present_in l.env) (next_in l.env)) (parts_of_cores l.cores)
    ≡ (each (λ (m : Meaning). m.value (bound_in l.env) (present_in l.env) (next_in l.env)) (parts_of_cores (drop l.core-index l.cores)) >>= λ ys. Ok (map tree_of_evaluated l.values.items ++ ys))

abbrev pub invariant-choices::chosen-loop-odometer : goal.invariant-choices::chosen-loop-odometer
invariant-choices::chosen-loop-odometer l =
    let f : List Tree → Outcome Tree = λ c. (means (expr_of l.body)).value (bound_in l.env ++ c) (present_in l.env) (next_in l.env) in
    let all = choices (map (λ (r : Bor (List Value)). map tree_of r.now) l.lists) in
    IsReady l.odometer × (each f all ≡ then_more (map tree_of l.values.items) (each f (left_of l.odometer)))

abbrev pub decreases-choices::chosen-loop-odometer : goal.decreases-choices::chosen-loop-odometer
decreases-choices::chosen-loop-odometer l = length (left_of l.odometer)

abbrev pub invariant-choices::chosen_once-loop-odometer : goal.invariant-choices::chosen_once-loop-odometer
invariant-choices::chosen_once-loop-odometer l =
    let f : List Tree → Outcome Tree = λ c. (means (expr_of l.body)).value (bound_in l.env ++ c) (present_in l.env) (next_in l.env) in
    let all = choices (map (λ (r : Bor (List Value)). map tree_of r.now) l.lists) in
    IsReady l.odometer × (kept : List Tree) × IsGathered kept l.values × (each f all ≡ then_more kept (each f (left_of l.odometer)))

abbrev pub decreases-choices::chosen_once-loop-odometer : goal.decreases-choices::chosen_once-loop-odometer
decreases-choices::chosen_once-loop-odometer l = length (left_of l.odometer)

abbrev pub invariant-choices::pass_over-loop-odometer : goal.invariant-choices::pass_over-loop-odometer
invariant-choices::pass_over-loop-odometer l =
    let f : List Tree → Outcome Tree = λ c. (means (expr_of l.body)).value (bound_in l.env ++ c) (present_in l.env) (next_in l.env) in
    let all = choices (map (λ (r : Bor (List Value)). map tree_of r.now) l.lists) in
    IsReady l.odometer × (nothing_of (each f all) ≡ nothing_of (each f (left_of l.odometer)))

abbrev pub decreases-choices::pass_over-loop-odometer : goal.decreases-choices::pass_over-loop-odometer
decreases-choices::pass_over-loop-odometer l = length (left_of l.odometer)

abbrev pub invariant-updates::updated_by_all-loop-update : goal.invariant-updates::updated_by_all-loop-update
invariant-updates::updated_by_all-loop-update l =
    update_all l.place (updates_of_cores l.updates) (bound_in l.env) (present_in l.env) (next_in l.env) (tree_of_evaluated l.initial.value)
    ≡ update_all l.place (updates_of_cores (drop l.update-index l.updates)) (bound_in l.env) (present_in l.env) (next_in l.env) (tree_of_evaluated l.value)

abbrev pub invariant-operands::values_of-loop-core : goal.invariant-operands::values_of-loop-core
invariant-operands::values_of-loop-core l =
    each (λ (m : Meaning). m.value (bound_in l.env) (present_in l.env) (next_in l.env)) (parts_of_cores l.cores)
    ≡ (each (λ (m : Meaning). m.value (bound_in l.env) (present_in l.env) (next_in l.env)) (parts_of_cores (drop l.core-index l.cores)) >>= λ ys. Ok (map tree_of l.values.items ++ ys))

abbrev pub invariant-operands::named_values-loop-field : goal.invariant-operands::named_values-loop-field
invariant-operands::named_values-loop-field l =
    each (λ (f : List ℕ × Meaning). named_value f (bound_in l.env) (present_in l.env) (next_in l.env)) (fields_of_cores l.fields)
    ≡ (each (λ (f : List ℕ × Meaning). named_value f (bound_in l.env) (present_in l.env) (next_in l.env)) (fields_of_cores (drop l.field-index l.fields)) >>= λ ys. Ok (map pair_of l.pairs.items ++ ys))

abbrev pub invariant-logic::cases-loop-arm : goal.invariant-logic::cases-loop-arm
invariant-logic::cases-loop-arm l =
    (means-cases l.place (arms_of_cores l.arms) (option_map (λ c. means (expr_of c.now)) l.other)).value (bound_in l.env) (present_in l.env) (next_in l.env)
    ≡ (means-cases l.place (arms_of_cores (drop l.arm-index l.arms)) (option_map (λ c. means (expr_of c.now)) l.other)).value (bound_in l.env) (present_in l.env) (next_in l.env)

abbrev pub invariant-logic::cases_have-loop-arm : goal.invariant-logic::cases_have-loop-arm
invariant-logic::cases_have-loop-arm l =
    (means-cases l.place (arms_of_cores l.arms) (option_map (λ c. means (expr_of c.now)) l.other)).has (tree_of l.value) (bound_in l.env) (present_in l.env) (next_in l.env)
    ≡ (means-cases l.place (arms_of_cores (drop l.arm-index l.arms)) (option_map (λ c. means (expr_of c.now)) l.other)).has (tree_of l.value) (bound_in l.env) (present_in l.env) (next_in l.env)

abbrev pub invariant-logic::conjunction-loop-part : goal.invariant-logic::conjunction-loop-part
invariant-logic::conjunction-loop-part l =
    all_hold (λ m. asks l.place m (bound_in l.env) (present_in l.env) (next_in l.env)) (parts_of_cores l.parts)
    ≡ all_hold (λ m. asks l.place m (bound_in l.env) (present_in l.env) (next_in l.env)) (parts_of_cores (drop l.part-index l.parts))

abbrev pub invariant-logic::disjunction-loop-part : goal.invariant-logic::disjunction-loop-part
invariant-logic::disjunction-loop-part l =
    some_hold (λ m. asks l.place m (bound_in l.env) (present_in l.env) (next_in l.env)) (parts_of_cores l.parts)
    ≡ some_hold (λ m. asks l.place m (bound_in l.env) (present_in l.env) (next_in l.env)) (parts_of_cores (drop l.part-index l.parts))

abbrev pub invariant-binding::each_holds-loop-number : goal.invariant-binding::each_holds-loop-number
invariant-binding::each_holds-loop-number l =
    all_hold (λ v. asks l.place (means (expr_of l.body)) (bound_in l.env ++ v ∷ []) (present_in l.env) (next_in l.env)) (elements_of l.elements)
    ≡ all_hold (λ v. asks l.place (means (expr_of l.body)) (bound_in l.env ++ v ∷ []) (present_in l.env) (next_in l.env)) (drop l.number (elements_of l.elements))

abbrev pub invariant-binding::some_holds-loop-number : goal.invariant-binding::some_holds-loop-number
invariant-binding::some_holds-loop-number l =
    some_hold (λ v. asks l.place (means (expr_of l.body)) (bound_in l.env ++ v ∷ []) (present_in l.env) (next_in l.env)) (elements_of l.elements)
    ≡ some_hold (λ v. asks l.place (means (expr_of l.body)) (bound_in l.env ++ v ∷ []) (present_in l.env) (next_in l.env)) (drop l.number (elements_of l.elements))

abbrev pub invariant-binding::first_passing-loop-number : goal.invariant-binding::first_passing-loop-number
invariant-binding::first_passing-loop-number l =
    first_passing l.place (λ v. asks l.place (means (expr_of l.body)) (bound_in l.env ++ v ∷ []) (present_in l.env) (next_in l.env)) (elements_of l.elements)
    ≡ first_passing l.place (λ v. asks l.place (means (expr_of l.body)) (bound_in l.env ++ v ∷ []) (present_in l.env) (next_in l.env)) (drop l.number (elements_of l.elements))

abbrev pub invariant-membership::has_all-loop-value : goal.invariant-membership::has_all-loop-value
invariant-membership::has_all-loop-value l =
    all_hold (λ v. mem v (expr_of l.core) (bound_in l.env) (present_in l.env) (next_in l.env)) (map tree_of l.values)
    ≡ all_hold (λ v. mem v (expr_of l.core) (bound_in l.env) (present_in l.env) (next_in l.env)) (map tree_of (drop l.value-index l.values))
