use Rattle.std.proofs.Common.{◌≡◌, ◌≤◌, rules, arith, Vec, Global, map, zip, length, option_map, Option, Bor, List, ◌++◌, ◌∷◌, [], Bool, Some, None, Ok, Err, inr, ap, sym, ◌∙◌, refl, subst}
use Rattle.std.proofs.lemmas.List.{map-append, length-map}
use Rattle.tla_value.specs.Choices.{choices}
use Rattle.tla_core.specs.Logic.{means-conjunction, means-disjunction, means-cases}
use Rattle.tla_core.specs.Meaning.{Meaning, asks, elements, means-enumerated, means-tuple}
use Rattle.tla_core.specs.Functions.{means-except}
use Rattle.tla_core.specs.Patterns.{means-opened}
use Rattle.tla_core.specs.Value.{means, mem}
use Rattle.tla_core.specs.ExprOf.{expr_of, binary_of, parts_of_cores, fields_of_cores, arms_of_cores, updates_of_cores}
use Rattle.tla_value.specs.Tree.{Tree}
use Rattle.tla_core.specs.Fault.{Outcome}
use Rattle.tla_core.specs.declared.fault.Place.{Place}
use Rattle.tla_core.specs.declared.fault.Fault.{Fault}
use Rattle.tla_operators.specs.Gives.{Gives, GivesBy, GivesTruth, contains_rule}
use Rattle.tla_eval.specs.Private.Parts.{record_rule, product_rule, record_set_rule, tested, one_of_rule}
use Rattle.tla_eval.specs.Private.Chosen.{image_rule, chosen_function_rule, values_for}
use Rattle.tla_sets.specs.Domain.{function_rule, AreForChoices, IsDomain}
use Rattle.tla_eval.specs.declared.environment.Environment.{Environment}
use Rattle.tla_operators.specs.declared.evaluated.Evaluated.{Evaluated}
use Rattle.tla_sets.specs.Elements.{elements_of, GivesElements}
use Rattle.tla_operators.specs.Gathered.{Gathers}
use Rattle.tla_value.specs.TreeOf.{tree_of, pair_of}
use Rattle.tla_core.specs.declared.expression.Core.{Core}
use Rattle.tla_value.specs.declared.value.Value.{Value}
use Rattle.tla_operators.specs.Evaluated.{Evaluates, tree_of_evaluated}
use Rattle.tla_eval.specs.Private.Environment.{bound_in, present_in, next_in}
use Rattle.tla_eval.specs.Private.Wheels.{left_of}
use Rattle.std.specs.Prelude.{slice_get}
use Rattle.tla_core.proofs.Loops.{all_hold_step}
use Rattle.tla_eval.proofs.Collected.{record_is}
use Rattle.tla_eval.proofs.Asked.{conjunction_told, disjunction_told, function_into}
use Rattle.tla_eval.proofs.Choices.{image_is, image_step, function_is, taken_more, passed_more, for_choices, function_of_values, function_first, function_passed}
use Rattle.tla_sets.proofs.Chosen.{trees_in}
use Rattle.tla_eval.proofs.Tested.{two_gone, two_asked, tested_told, all_more, all_stop, all_first, all_end, some_more, some_stop, some_first, some_end, least_more, least_stop, least_first, least_end, kept_more, kept_first, kept_end, one_of_is}
use Rattle.tla_operators.proofs.Different.{more_none}
use Rattle.tla_core.proofs.Parts.{means_conjunction, means_disjunction, means_enumerated, means_tuple, means_record, means_image, means_function, means_except, means_cases, means_cases_or, means_records, means_product}
use Rattle.tla_eval.proofs.RecordSets.{product_is, record_set_is, fields_long, tuple_long, tuple_other, same_number, number_same}
use Rattle.tla_core.specs.Kinds.{items, as_set, make_fun}
use Rattle.tla_core.specs.Lists.{each, all_hold, some_hold}
use Rattle.tla_core.specs.Operators.{binary_rule}
use Rattle.tla_core.specs.SetForms.{means-records, means-product}
use Rattle.tla_core.proofs.FixedTrees.{literal_value, literal_has}
use Rattle.tla_eval.proofs.evaluation.+evaluate.Goals as goal

pub evaluate_other-returns-in-Conjunction : goal.evaluate_other-returns-in-Conjunction
evaluate_other-returns-in-Conjunction t c =
    let n = c.in-Conjunction in
    let e = means_conjunction c.args.core.now n.place n.parts n.is ∙ ap (λ us. means-conjunction n.place (parts_of_cores us)) (sym c.deref-in-Conjunction.ensures.value) in
    subst (λ (m : Meaning). Evaluates c.conjunction.result (m.value (bound_in c.args.env) (present_in c.args.env) (next_in c.args.env))) (sym e) c.conjunction.ensures

pub evaluate_other-returns-in-Disjunction : goal.evaluate_other-returns-in-Disjunction
evaluate_other-returns-in-Disjunction t c =
    let n = c.in-Disjunction in
    let e = means_disjunction c.args.core.now n.place n.parts n.is ∙ ap (λ us. means-disjunction n.place (parts_of_cores us)) (sym c.deref-in-Disjunction.ensures.value) in
    subst (λ (m : Meaning). Evaluates c.disjunction.result (m.value (bound_in c.args.env) (present_in c.args.env) (next_in c.args.env))) (sym e) c.disjunction.ensures

-- whether a body is TRUE for an element
abbrev body_of : Place → Core → Environment → Tree → Outcome Bool
body_of p body env v = asks p (means (expr_of body)) (bound_in env ++ v ∷ []) (present_in env) (next_in env)

pub binding::holds_at-returns : goal.binding::holds_at-returns
binding::holds_at-returns t c =
    tested_told (body_of c.args.place.now c.args.body.now c.args.env) (slice_get (elements_of c.args.elements.now) c.args.number) (tree_of c.value.result.now) c.ask_with.result
    (sym c.element_at-element.ensures ∙ ap (λ v. Some v) (sym c.value.ensures)) c.ask_with.ensures

pub binding::each_holds-loop-number-preserved : goal.binding::each_holds-loop-number-preserved
binding::each_holds-loop-number-preserved t c = c.loop-number.invariant ∙ all_more (body_of c.args.place.now c.args.body.now c.args.env) (elements_of c.args.elements.now) c.loop-number.number c.in_ok-holds.holds c.in_ok-holds.ensures c.if-not-holds.false

pub binding::each_holds-returns-then-not-holds : goal.binding::each_holds-returns-then-not-holds
binding::each_holds-returns-then-not-holds t c =
    c.loop-number.invariant ∙ all_stop (body_of c.args.place.now c.args.body.now c.args.env) (elements_of c.args.elements.now) c.loop-number.number c.in_ok-holds.holds c.in_ok-holds.ensures c.if-not-holds.true

pub binding::each_holds-returns : goal.binding::each_holds-returns
binding::each_holds-returns t c = c.loop-number.invariant ∙ all_end (body_of c.args.place.now c.args.body.now c.args.env) (elements_of c.args.elements.now) c.loop-number.number (subst (λ n. n ≤ c.loop-number.number) c.count_of-number-end.ensures c.loop-number-test.false)

pub binding::each_holds-returns-in_err-holds : goal.binding::each_holds-returns-in_err-holds
binding::each_holds-returns-in_err-holds t c =
    let e = c.loop-number.invariant ∙ all_first (body_of c.args.place.now c.args.body.now c.args.env) (elements_of c.args.elements.now) c.loop-number.number in
    subst (λ (o : Outcome Bool). GivesTruth c.from_residual.result o) (sym e) (search rules)

pub binding::some_holds-loop-number-preserved : goal.binding::some_holds-loop-number-preserved
binding::some_holds-loop-number-preserved t c = c.loop-number.invariant ∙ some_more (body_of c.args.place.now c.args.body.now c.args.env) (elements_of c.args.elements.now) c.loop-number.number c.in_ok-holds.holds c.in_ok-holds.ensures c.if-holds.false

pub binding::some_holds-returns-then-holds : goal.binding::some_holds-returns-then-holds
binding::some_holds-returns-then-holds t c =
    c.loop-number.invariant ∙ some_stop (body_of c.args.place.now c.args.body.now c.args.env) (elements_of c.args.elements.now) c.loop-number.number c.in_ok-holds.holds c.in_ok-holds.ensures c.if-holds.true

pub binding::some_holds-returns : goal.binding::some_holds-returns
binding::some_holds-returns t c = c.loop-number.invariant ∙ some_end (body_of c.args.place.now c.args.body.now c.args.env) (elements_of c.args.elements.now) c.loop-number.number (subst (λ n. n ≤ c.loop-number.number) c.count_of-number-end.ensures c.loop-number-test.false)

pub binding::some_holds-returns-in_err-holds : goal.binding::some_holds-returns-in_err-holds
binding::some_holds-returns-in_err-holds t c =
    let e = c.loop-number.invariant ∙ some_first (body_of c.args.place.now c.args.body.now c.args.env) (elements_of c.args.elements.now) c.loop-number.number in
    subst (λ (o : Outcome Bool). GivesTruth c.from_residual.result o) (sym e) (search rules)

pub binding::first_passing-loop-number-preserved : goal.binding::first_passing-loop-number-preserved
binding::first_passing-loop-number-preserved t c = c.loop-number.invariant ∙ least_more (body_of c.args.place.now c.args.body.now c.args.env) (elements_of c.args.elements.now) c.loop-number.number c.args.place.now c.in_ok-holds.holds c.in_ok-holds.ensures c.if-holds.false

pub binding::first_passing-returns-then-holds : goal.binding::first_passing-returns-then-holds
binding::first_passing-returns-then-holds t c =
    let e = c.loop-number.invariant ∙ least_stop (body_of c.args.place.now c.args.body.now c.args.env) (elements_of c.args.elements.now) c.loop-number.number c.args.place.now c.in_ok-holds.holds c.in_ok-holds.ensures c.if-holds.true in
    subst (λ (o : Outcome Tree). Gives c.chosen_at.result o) (sym e) (c.chosen_at.ensures c.args.place.now)

pub binding::first_passing-returns : goal.binding::first_passing-returns
binding::first_passing-returns t c = inr (c.loop-number.invariant ∙ least_end (body_of c.args.place.now c.args.body.now c.args.env) (elements_of c.args.elements.now) c.loop-number.number c.args.place.now (subst (λ n. n ≤ c.loop-number.number) c.count_of-number-end.ensures c.loop-number-test.false) ∙ ap (λ (f : Fault). Err f) (sym c.fault_at.ensures))

pub binding::first_passing-returns-in_err-holds : goal.binding::first_passing-returns-in_err-holds
binding::first_passing-returns-in_err-holds t c =
    let e = c.loop-number.invariant ∙ least_first (body_of c.args.place.now c.args.body.now c.args.env) (elements_of c.args.elements.now) c.loop-number.number c.args.place.now in
    subst (λ (o : Outcome Tree). Gives c.from_residual.result o) (sym e) (search rules)

pub binding::passing-loop-number-preserved : goal.binding::passing-loop-number-preserved
binding::passing-loop-number-preserved t c =
    c.loop-number.invariant
    ∙ kept_more (body_of c.args.place.now c.args.body.now c.args.env) (elements_of c.args.elements.now) c.loop-number.number (map tree_of c.loop-number.kept.items) (map tree_of c.keep_at.new.kept.items) c.in_ok-holds.holds c.in_ok-holds.ensures c.in_ok-keep_at.ensures.ok

pub binding::passing-returns : goal.binding::passing-returns
binding::passing-returns t c = c.loop-number.invariant ∙ kept_end (body_of c.args.place.now c.args.body.now c.args.env) (elements_of c.args.elements.now) c.loop-number.number (map tree_of c.loop-number.kept.items) (subst (λ n. n ≤ c.loop-number.number) c.count_of-number-end.ensures c.loop-number-test.false)

pub binding::passing-returns-in_err-holds : goal.binding::passing-returns-in_err-holds
binding::passing-returns-in_err-holds t c =
    let e = c.loop-number.invariant ∙ kept_first (body_of c.args.place.now c.args.body.now c.args.env) (elements_of c.args.elements.now) c.loop-number.number (map tree_of c.loop-number.kept.items) in
    subst (λ (o : Outcome (List Tree)). GivesBy (λ (v : Vec Value Global). map tree_of v.items) c.from_residual.result o) (sym e) (search rules)

pub binding::elements_in-returns-in_ok-right-in-Binary : goal.binding::elements_in-returns-in_ok-right-in-Binary
binding::elements_in-returns-in_ok-right-in-Binary t c =
    let n = c.in-Binary in
    let b = bound_in c.args.env in let s = present_in c.args.env in let q = next_in c.args.env in
    let left = ap (λ (k : Core). (means (expr_of k)).value b s q) (sym c.deref.ensures) ∙ c.in_ok-left-in-Binary.ensures in
    let right = ap (λ (k : Core). (means (expr_of k)).value b s q) (sym c.deref-in-Binary.ensures) ∙ c.in_ok-right-in-Binary.ensures in
    let e = ap (λ (k : Core). elements c.args.place.now (means (expr_of k)) b s q) n.is
    ∙ two_gone c.args.place.now (binary_rule (binary_of n.operator) n.at) ((means (expr_of n.left.value)).value b s q) ((means (expr_of n.right.value)).value b s q)
    (tree_of_evaluated c.in_ok-left-in-Binary.left) (tree_of_evaluated c.in_ok-right-in-Binary.right) (tree_of c.value.result.now) (tree_of c.value-in-Binary.result.now)
    left right c.value.ensures c.value-in-Binary.ensures in
    subst (λ (o : Outcome (List Tree)). GivesElements c.elements_of_two.result o) (sym e) c.elements_of_two.ensures

pub membership::two_hold-returns : goal.membership::two_hold-returns
membership::two_hold-returns t c =
    let b = bound_in c.args.env in let s = present_in c.args.env in let q = next_in c.args.env in
    let e = two_asked c.args.place.now (binary_rule (binary_of c.args.operator) c.args.place.now) ((means (expr_of c.args.left.now)).value b s q) ((means (expr_of c.args.right.now)).value b s q)
    (tree_of_evaluated c.in_ok-left.left) (tree_of_evaluated c.in_ok-right.right) (tree_of c.value.result.now) (tree_of c.value-2.result.now)
    c.in_ok-left.ensures c.in_ok-right.ensures c.value.ensures c.value-2.ensures (tree_of c.args.value.now) in
    subst (λ (o : Outcome Bool). GivesTruth c.two_have.result o) (sym e) c.two_have.ensures

pub has_other-returns-in-Enumerated : goal.has_other-returns-in-Enumerated
has_other-returns-in-Enumerated t c =
    let n = c.in-Enumerated in
    let b = bound_in c.args.env in let s = present_in c.args.env in let q = next_in c.args.env in
    let v = tree_of c.args.value.now in
    let e = ap (λ (m : Meaning). m.has v b s q) (means_enumerated c.args.core.now n.place n.parts n.is)
    ∙ one_of_is n.place (parts_of_cores n.parts.items) v b s q
    ∙ ap (λ us. one_of_rule n.place (parts_of_cores us) v b s q) (sym c.deref-in-Enumerated.ensures.value) in
    subst (λ (o : Outcome Bool). GivesTruth c.is_one_of.result o) (sym e) c.is_one_of.ensures

pub membership::has_all-loop-value-preserved : goal.membership::has_all-loop-value-preserved
membership::has_all-loop-value-preserved t c =
    c.loop-value.invariant
    ∙ all_hold_step (λ v. mem v (expr_of c.args.core.now) (bound_in c.args.env) (present_in c.args.env) (next_in c.args.env)) c.args.values.now c.loop-value.value-index c.value-item.result c.value-item.is c.loop-value-test.true (c.in_ok-has.ensures ∙ ap (λ (x : Bool). Ok x) c.if-not-branch.false)

pub evaluate_other-returns-in-Enumerated : goal.evaluate_other-returns-in-Enumerated
evaluate_other-returns-in-Enumerated t c =
    let n = c.in-Enumerated in
    let e = means_enumerated c.args.core.now n.place n.parts n.is ∙ ap (λ us. means-enumerated n.place (parts_of_cores us)) (sym c.deref-in-Enumerated.ensures.value) in
    subst (λ (m : Meaning). Evaluates c.enumerated.result (m.value (bound_in c.args.env) (present_in c.args.env) (next_in c.args.env))) (sym e) c.enumerated.ensures

pub evaluate_other-returns-in-Tuple : goal.evaluate_other-returns-in-Tuple
evaluate_other-returns-in-Tuple t c =
    let n = c.in-Tuple in
    let e = means_tuple c.args.core.now n.place n.parts n.is ∙ ap (λ us. means-tuple n.place (parts_of_cores us)) (sym c.deref-in-Tuple.ensures.value) in
    subst (λ (m : Meaning). Evaluates c.tuple.result (m.value (bound_in c.args.env) (present_in c.args.env) (next_in c.args.env))) (sym e) c.tuple.ensures

pub evaluate_other-returns-in-Record : goal.evaluate_other-returns-in-Record
evaluate_other-returns-in-Record t c =
    let n = c.in-Record in
    let e = ap (λ (m : Meaning). m.value (bound_in c.args.env) (present_in c.args.env) (next_in c.args.env)) (means_record c.args.core.now n.place n.fields n.is)
    ∙ record_is n.place (fields_of_cores n.fields.items) (bound_in c.args.env) (present_in c.args.env) (next_in c.args.env)
    ∙ ap (λ us. record_rule n.place (fields_of_cores us) (bound_in c.args.env) (present_in c.args.env) (next_in c.args.env)) (sym c.deref-in-Record.ensures.value) in
    subst (λ (o : Outcome Tree). Evaluates c.record_of.result o) (sym e) c.record_of.ensures

pub evaluate_other-returns-in-None : goal.evaluate_other-returns-in-None
evaluate_other-returns-in-None t c =
    let n = c.in-Cases in
    let e = means_cases c.args.core.now n.place n.arms n.other n.is c.in-None.is ∙ ap (λ us. means-cases n.place (arms_of_cores us) None) (sym c.deref-in-None.ensures.value) in
    subst (λ (m : Meaning). Evaluates c.cases.result (m.value (bound_in c.args.env) (present_in c.args.env) (next_in c.args.env))) (sym e) c.cases.ensures

pub evaluate_other-returns-in-Some : goal.evaluate_other-returns-in-Some
evaluate_other-returns-in-Some t c =
    let n = c.in-Cases in
    let e = means_cases_or c.args.core.now n.place n.arms n.other c.in-Some.body n.is c.in-Some.is
    ∙ ap (λ us. means-cases n.place (arms_of_cores us) (Some (means (expr_of c.in-Some.body.value)))) (sym c.deref-in-Some.ensures.value)
    ∙ ap (λ (x : Core). means-cases n.place (arms_of_cores c.deref-in-Some.result.now) (Some (means (expr_of x)))) (sym c.deref-in-Some-2.ensures) in
    subst (λ (m : Meaning). Evaluates c.cases-in-Some.result (m.value (bound_in c.args.env) (present_in c.args.env) (next_in c.args.env))) (sym e) c.cases-in-Some.ensures

pub has_other-returns-in-None : goal.has_other-returns-in-None
has_other-returns-in-None t c =
    let n = c.in-Cases in
    let e = means_cases c.args.core.now n.place n.arms n.other n.is c.in-None.is ∙ ap (λ us. means-cases n.place (arms_of_cores us) None) (sym c.deref-in-None.ensures.value) in
    subst (λ (m : Meaning). GivesTruth c.cases_have.result (m.has (tree_of c.args.value.now) (bound_in c.args.env) (present_in c.args.env) (next_in c.args.env))) (sym e) c.cases_have.ensures

pub has_other-returns-in-Some : goal.has_other-returns-in-Some
has_other-returns-in-Some t c =
    let n = c.in-Cases in
    let e = means_cases_or c.args.core.now n.place n.arms n.other c.in-Some.body n.is c.in-Some.is
    ∙ ap (λ us. means-cases n.place (arms_of_cores us) (Some (means (expr_of c.in-Some.body.value)))) (sym c.deref-in-Some.ensures.value)
    ∙ ap (λ (x : Core). means-cases n.place (arms_of_cores c.deref-in-Some.result.now) (Some (means (expr_of x)))) (sym c.deref-in-Some-2.ensures) in
    subst (λ (m : Meaning). GivesTruth c.cases_have-in-Some.result (m.has (tree_of c.args.value.now) (bound_in c.args.env) (present_in c.args.env) (next_in c.args.env))) (sym e) c.cases_have-in-Some.ensures

pub evaluate_other-returns-in-Image : goal.evaluate_other-returns-in-Image
evaluate_other-returns-in-Image t c =
    let n = c.in-Image in
    let b = bound_in c.args.env in let s = present_in c.args.env in let q = next_in c.args.env in
    let e = ap (λ (m : Meaning). m.value b s q) (means_image c.args.core.now n.place n.sets n.body n.is)
    ∙ image_is n.place (parts_of_cores n.sets.items) (means (expr_of n.body.value)) b s q
    ∙ ap (λ us. image_rule n.place (parts_of_cores us) (means (expr_of n.body.value)) b s q) (sym c.deref-in-Image.ensures.value)
    ∙ ap (λ (k : Core). image_rule n.place (parts_of_cores c.deref-in-Image.result.now) (means (expr_of k)) b s q) (sym c.deref-in-Image-2.ensures) in
    subst (λ (o : Outcome Tree). Evaluates c.image.result o) (sym e) c.image.ensures

pub evaluate_other-returns-in-Function : goal.evaluate_other-returns-in-Function
evaluate_other-returns-in-Function t c =
    let n = c.in-Function in
    let b = bound_in c.args.env in let s = present_in c.args.env in let q = next_in c.args.env in
    let e = ap (λ (m : Meaning). m.value b s q) (means_function c.args.core.now n.place n.sets n.body n.is)
    ∙ function_is n.place (parts_of_cores n.sets.items) (means (expr_of n.body.value)) b s q
    ∙ ap (λ us. chosen_function_rule n.place (parts_of_cores us) (means (expr_of n.body.value)) b s q) (sym c.deref-in-Function.ensures.value)
    ∙ ap (λ (k : Core). chosen_function_rule n.place (parts_of_cores c.deref-in-Function.result.now) (means (expr_of k)) b s q) (sym c.deref-in-Function-2.ensures) in
    subst (λ (o : Outcome Tree). Evaluates c.function.result o) (sym e) c.function.ensures

pub evaluate_other-returns-in-Destructure : goal.evaluate_other-returns-in-Destructure
evaluate_other-returns-in-Destructure t c =
    let n = c.in-Destructure in
    let e = ap (λ (k : Core). means (expr_of k)) n.is
    ∙ ap (λ os. means-opened n.place os (means (expr_of n.body.value))) (sym c.deref-in-Destructure.ensures.value)
    ∙ ap (λ (k : Core). means-opened n.place c.deref-in-Destructure.result.now (means (expr_of k))) (sym c.deref-in-Destructure-2.ensures) in
    subst (λ (m : Meaning). Evaluates c.opened.result (m.value (bound_in c.args.env) (present_in c.args.env) (next_in c.args.env))) (sym e) c.opened.ensures

pub evaluate_other-returns-in-Except : goal.evaluate_other-returns-in-Except
evaluate_other-returns-in-Except t c =
    let n = c.in-Except in
    let b = bound_in c.args.env in let s = present_in c.args.env in let q = next_in c.args.env in
    let e = means_except c.args.core.now n.place n.base n.updates n.is
    ∙ ap (λ us. means-except n.place (means (expr_of n.base.value)) (updates_of_cores us)) (sym c.deref-in-Except.ensures.value)
    ∙ ap (λ (k : Core). means-except n.place (means (expr_of k)) (updates_of_cores c.deref-in-Except.result.now)) (sym c.deref-in-Except-2.ensures) in
    subst (λ (m : Meaning). Evaluates c.except.result (m.value b s q)) (sym e) c.except.ensures

pub evaluate_other-returns-in-Records : goal.evaluate_other-returns-in-Records
evaluate_other-returns-in-Records t c =
    let n = c.in-Records in
    let b = bound_in c.args.env in let s = present_in c.args.env in let q = next_in c.args.env in
    let e = ap (λ (m : Meaning). m.value b s q) (means_records c.args.core.now n.place n.fields n.is)
    ∙ record_set_is n.place (fields_of_cores n.fields.items) b s q
    ∙ ap (λ us. record_set_rule n.place (fields_of_cores us) b s q) (sym c.deref-in-Records.ensures.value) in
    subst (λ (o : Outcome Tree). Evaluates c.records.result o) (sym e) c.records.ensures

pub evaluate_other-returns-in-Product : goal.evaluate_other-returns-in-Product
evaluate_other-returns-in-Product t c =
    let n = c.in-Product in
    let b = bound_in c.args.env in let s = present_in c.args.env in let q = next_in c.args.env in
    let e = ap (λ (m : Meaning). m.value b s q) (means_product c.args.core.now n.place n.parts n.is)
    ∙ product_is n.place (parts_of_cores n.parts.items) b s q
    ∙ ap (λ us. product_rule n.place (parts_of_cores us) b s q) (sym c.deref-in-Product.ensures.value) in
    subst (λ (o : Outcome Tree). Evaluates c.product.result o) (sym e) c.product.ensures

pub has_other-returns-in-Records : goal.has_other-returns-in-Records
has_other-returns-in-Records t c =
    let n = c.in-Records in
    let e = means_records c.args.core.now n.field-0 n.fields n.is ∙ ap (λ us. means-records n.field-0 (fields_of_cores us)) (sym c.deref-in-Records.ensures.value) in
    subst (λ (m : Meaning). GivesTruth c.is_record_of.result (m.has (tree_of c.args.value.now) (bound_in c.args.env) (present_in c.args.env) (next_in c.args.env))) (sym e) (c.is_record_of.ensures n.field-0)

pub has_other-returns-in-Product : goal.has_other-returns-in-Product
has_other-returns-in-Product t c =
    let n = c.in-Product in
    let e = means_product c.args.core.now n.field-0 n.parts n.is ∙ ap (λ us. means-product n.field-0 (parts_of_cores us)) (sym c.deref-in-Product.ensures.value) in
    subst (λ (m : Meaning). GivesTruth c.is_tuple_of.result (m.has (tree_of c.args.value.now) (bound_in c.args.env) (present_in c.args.env) (next_in c.args.env))) (sym e) (c.is_tuple_of.ensures n.field-0)

pub choices::image-returns : goal.choices::image-returns
choices::image-returns t c =
    let m = means (expr_of c.args.body.now) in
    let vs = map tree_of_evaluated c.as_slice.result.now in
    let lists = trees_in c.as_slice-2.result.now in
    let e = image_step c.args.place.now (parts_of_cores c.args.sets.now) m (bound_in c.args.env) (present_in c.args.env) (next_in c.args.env) vs lists
    (c.in_ok-sets.ensures ∙ ap (λ (us : List Evaluated). Ok (map tree_of_evaluated us)) (sym c.as_slice.ensures.value))
    (c.in_ok-lists.ensures ∙ ap (λ (us : List (Bor (List Value))). Ok (trees_in us)) (sym c.as_slice-2.ensures.value)) in
    e ∙ c.in_ok-into_set.ensures (values_for m (bound_in c.args.env) (present_in c.args.env) (next_in c.args.env) lists) c.in_ok-values.ensures

pub choices::image-returns-in_err-into_set : goal.choices::image-returns-in_err-into_set
choices::image-returns-in_err-into_set t c =
    let m = means (expr_of c.args.body.now) in
    let vs = map tree_of_evaluated c.as_slice.result.now in
    let lists = trees_in c.as_slice-2.result.now in
    let e = image_step c.args.place.now (parts_of_cores c.args.sets.now) m (bound_in c.args.env) (present_in c.args.env) (next_in c.args.env) vs lists
    (c.in_ok-sets.ensures ∙ ap (λ (us : List Evaluated). Ok (map tree_of_evaluated us)) (sym c.as_slice.ensures.value))
    (c.in_ok-lists.ensures ∙ ap (λ (us : List (Bor (List Value))). Ok (trees_in us)) (sym c.as_slice-2.ensures.value)) in
    let g = c.in_err-into_set.ensures (values_for m (bound_in c.args.env) (present_in c.args.env) (next_in c.args.env) lists) c.in_ok-values.ensures in
    subst (λ (o : Outcome Tree). Evaluates c.from_residual-in_err-into_set.result o) (sym e) (search (rules, g))

pub choices::function_on_members-function_on-requires-clause-paired : goal.choices::function_on_members-function_on-requires-clause-paired
choices::function_on_members-function_on-requires-clause-paired t c =
    let p = c.args.place.now in
    let m = means (expr_of c.args.body.now) in
    let vs = map tree_of_evaluated c.args.sets.now in
    let lists = trees_in c.as_slice.result.now in
    let are : each (as_set p) vs ≡ Ok lists = c.in_ok-lists.ensures ∙ ap (λ (us : List (Bor (List Value))). Ok (trees_in us)) (sym c.as_slice.ensures.value) in
    for_choices p m (bound_in c.args.env) (present_in c.args.env) (next_in c.args.env) vs lists are (map tree_of c.in_ok-values.values.items) c.in_ok-values.ensures

pub choices::function_on_tuples-function_with-requires : goal.choices::function_on_tuples-function_with-requires
choices::function_on_tuples-function_with-requires t c =
    let p = c.args.place.now in
    let m = means (expr_of c.args.body.now) in
    let vs = map tree_of_evaluated c.args.sets.now in
    let lists = trees_in c.as_slice-lists.result.now in
    let are : each (as_set p) vs ≡ Ok lists = c.in_ok-lists.ensures ∙ ap (λ (us : List (Bor (List Value))). Ok (trees_in us)) (sym c.as_slice-lists.ensures.value) in
    let ys = map tree_of c.in_ok-values-in-Tuples.values.items in
    let on : (zs : List Tree) → AreForChoices p vs zs → (length c.in-Tuples.tuples ≡ length zs) × (function_rule p vs zs ≡ make_fun p (zip c.in-Tuples.tuples zs)) = subst (IsDomain p vs) c.in-Tuples.is c.in_ok-tuples.ensures in
    (on ys (for_choices p m (bound_in c.args.env) (present_in c.args.env) (next_in c.args.env) vs lists are ys c.in_ok-values-in-Tuples.ensures)).0 ∙ length-map c.in_ok-values-in-Tuples.values.items tree_of

pub choices::function_on_tuples-returns-in-Tuples : goal.choices::function_on_tuples-returns-in-Tuples
choices::function_on_tuples-returns-in-Tuples t c =
    let p = c.args.place.now in
    let m = means (expr_of c.args.body.now) in
    let vs = map tree_of_evaluated c.args.sets.now in
    let lists = trees_in c.as_slice-lists.result.now in
    let are : each (as_set p) vs ≡ Ok lists = c.in_ok-lists.ensures ∙ ap (λ (us : List (Bor (List Value))). Ok (trees_in us)) (sym c.as_slice-lists.ensures.value) in
    let ys = map tree_of c.in_ok-values-in-Tuples.values.items in
    let on : (zs : List Tree) → AreForChoices p vs zs → (length c.in-Tuples.tuples ≡ length zs) × (function_rule p vs zs ≡ make_fun p (zip c.in-Tuples.tuples zs)) = subst (IsDomain p vs) c.in-Tuples.is c.in_ok-tuples.ensures in
    let e = function_of_values p m (bound_in c.args.env) (present_in c.args.env) (next_in c.args.env) vs lists are ys c.in_ok-values-in-Tuples.ensures
    ∙ (on ys (for_choices p m (bound_in c.args.env) (present_in c.args.env) (next_in c.args.env) vs lists are ys c.in_ok-values-in-Tuples.ensures)).1 in
    subst (λ (o : Outcome Tree). Gives c.function_with.result o) (sym e) c.function_with.ensures

pub choices::function_on_tuples-returns-in_err-pass_over-in-Refused : goal.choices::function_on_tuples-returns-in_err-pass_over-in-Refused
choices::function_on_tuples-returns-in_err-pass_over-in-Refused t c =
    let p = c.args.place.now in
    let m = means (expr_of c.args.body.now) in
    let vs = map tree_of_evaluated c.args.sets.now in
    let lists = trees_in c.as_slice-lists.result.now in
    let are : each (as_set p) vs ≡ Ok lists = c.in_ok-lists.ensures ∙ ap (λ (us : List (Bor (List Value))). Ok (trees_in us)) (sym c.as_slice-lists.ensures.value) in
    let e = function_first p m (bound_in c.args.env) (present_in c.args.env) (next_in c.args.env) vs lists are in
    subst (λ (o : Outcome Tree). Gives c.from_residual-in_err-pass_over-in-Refused.result o) (sym e) (search rules)

pub choices::function_on_tuples-returns : goal.choices::function_on_tuples-returns
choices::function_on_tuples-returns t c =
    let p = c.args.place.now in
    let m = means (expr_of c.args.body.now) in
    let vs = map tree_of_evaluated c.args.sets.now in
    let lists = trees_in c.as_slice-lists.result.now in
    let are : each (as_set p) vs ≡ Ok lists = c.in_ok-lists.ensures ∙ ap (λ (us : List (Bor (List Value))). Ok (trees_in us)) (sym c.as_slice-lists.ensures.value) in
    function_passed p m (bound_in c.args.env) (present_in c.args.env) (next_in c.args.env) vs lists are c.in_ok-pass_over-in-Refused.field-0 c.in-Refused.fault c.in_ok-pass_over-in-Refused.ensures
    (subst (IsDomain p vs) c.in-Refused.is c.in_ok-tuples.ensures)

pub choices::chosen_once-loop-odometer-preserved : goal.choices::chosen_once-loop-odometer-preserved
choices::chosen_once-loop-odometer-preserved t c =
    let f : List Tree → Outcome Tree = λ d. (means (expr_of c.args.body.now)).value (bound_in c.args.env ++ d) (present_in c.args.env) (next_in c.args.env) in
    let kept = c.loop-odometer.invariant.1 in
    let v = tree_of c.in_ok-value_with_all.field-0 in
    let choice = map tree_of c.as_slice.result.now in
    let at = sym c.in_ok-choice.ensures.choice ∙ ap (option_map (λ (w : Vec Value Global). map tree_of w.items)) c.in-Some.is ∙ ap (λ us. Some (map tree_of us)) (sym c.as_slice.ensures.value) in (
      c.in_ok-choice.ensures.ready,
      kept ++ v ∷ [],
      c.in_ok-add.ensures.ok kept c.loop-odometer.invariant.2,
      c.loop-odometer.invariant.3
          ∙ taken_more f (left_of c.loop-odometer.odometer) kept choice v (kept ++ v ∷ []) (left_of c.next.new.self) at c.in_ok-value_with_all.ensures refl c.in_ok-choice.ensures.rest,
    )

pub choices::pass_over-loop-odometer-preserved : goal.choices::pass_over-loop-odometer-preserved
choices::pass_over-loop-odometer-preserved t c =
    let f : List Tree → Outcome Tree = λ d. (means (expr_of c.args.body.now)).value (bound_in c.args.env ++ d) (present_in c.args.env) (next_in c.args.env) in
    let choice = map tree_of c.as_slice.result.now in
    let at = sym c.in_ok-choice.ensures.choice ∙ ap (option_map (λ (w : Vec Value Global). map tree_of w.items)) c.in-Some.is ∙ ap (λ us. Some (map tree_of us)) (sym c.as_slice.ensures.value) in (
      c.in_ok-choice.ensures.ready,
      c.loop-odometer.invariant.1
          ∙ passed_more f (left_of c.loop-odometer.odometer) choice (tree_of c.in_ok-value_with_all.field-0) (left_of c.next.new.self) at c.in_ok-value_with_all.ensures c.in_ok-choice.ensures.rest,
    )

pub products::records-records_with-requires : goal.products::records-records_with-requires
products::records-records_with-requires t c =
    fields_long (λ (m : Meaning). m.value (bound_in c.args.env) (present_in c.args.env) (next_in c.args.env)) c.args.fields.now c.in_ok-sets.sets.items c.in_ok-sets.ensures ∙ ap length (sym c.as_slice.ensures.value)

pub products::is_tuple_of-returns-then-items-parts : goal.products::is_tuple_of-returns-then-items-parts
products::is_tuple_of-returns-then-items-parts t c = λ p.
    let vs = map tree_of c.in-Some.items.now in
    let ms = parts_of_cores c.args.parts.now in
    let e = tuple_long ms vs (items (tree_of c.args.value.now)) (sym c.sequence_items.ensures ∙ ap (option_map (λ (us : Bor (List Value)). map tree_of us.now)) c.in-Some.is) (bound_in c.args.env) (present_in c.args.env) (next_in c.args.env) (same_number c.in-Some.items.now c.args.parts.now (omega (arith, c.if-items-parts.true))) in
    subst (λ (o : Outcome Bool). GivesTruth c.parts_have.result o) (sym e) c.parts_have.ensures

pub products::is_tuple_of-returns-else-items-parts : goal.products::is_tuple_of-returns-else-items-parts
products::is_tuple_of-returns-else-items-parts t c = λ p.
    let vs = map tree_of c.in-Some.items.now in
    let ms = parts_of_cores c.args.parts.now in
    tuple_other ms vs (items (tree_of c.args.value.now)) (sym c.sequence_items.ensures ∙ ap (option_map (λ (us : Bor (List Value)). map tree_of us.now)) c.in-Some.is) (bound_in c.args.env) (present_in c.args.env) (next_in c.args.env)
    (λ e. let h = number_same c.in-Some.items.now c.args.parts.now e in omega (arith, c.if-items-parts.false))

pub evaluate_logic-returns-in-Conjunction : goal.evaluate_logic-returns-in-Conjunction
evaluate_logic-returns-in-Conjunction t c =
    let n = c.in-Conjunction in
    let e = means_conjunction c.args.core.now n.place n.parts n.is ∙ ap (λ us. means-conjunction n.place (parts_of_cores us)) (sym c.deref.ensures.value) in
    subst (λ (m : Meaning). Evaluates c.conjunction.result (m.value (bound_in c.args.env) (present_in c.args.env) (next_in c.args.env))) (sym e) c.conjunction.ensures

pub evaluate_logic-returns-in-Disjunction : goal.evaluate_logic-returns-in-Disjunction
evaluate_logic-returns-in-Disjunction t c =
    let n = c.in-Disjunction in
    let e = means_disjunction c.args.core.now n.place n.parts n.is ∙ ap (λ us. means-disjunction n.place (parts_of_cores us)) (sym c.deref-in-Disjunction.ensures.value) in
    subst (λ (m : Meaning). Evaluates c.disjunction.result (m.value (bound_in c.args.env) (present_in c.args.env) (next_in c.args.env))) (sym e) c.disjunction.ensures

pub has-returns-in-Enumerated : goal.has-returns-in-Enumerated
has-returns-in-Enumerated t c =
    let n = c.in-Enumerated in
    let b = bound_in c.args.env in let s = present_in c.args.env in let q = next_in c.args.env in
    let v = tree_of c.args.value.now in
    let e = ap (λ (m : Meaning). m.has v b s q) (means_enumerated c.args.core.now n.place n.parts n.is)
    ∙ one_of_is n.place (parts_of_cores n.parts.items) v b s q
    ∙ ap (λ us. one_of_rule n.place (parts_of_cores us) v b s q) (sym c.deref-in-Enumerated.ensures.value) in
    subst (λ (o : Outcome Bool). GivesTruth c.is_one_of.result o) (sym e) c.is_one_of.ensures

pub has-returns-in-Records : goal.has-returns-in-Records
has-returns-in-Records t c =
    let n = c.in-Records in
    let e = means_records c.args.core.now n.field-0 n.fields n.is ∙ ap (λ us. means-records n.field-0 (fields_of_cores us)) (sym c.deref-in-Records.ensures.value) in
    subst (λ (m : Meaning). GivesTruth c.is_record_of.result (m.has (tree_of c.args.value.now) (bound_in c.args.env) (present_in c.args.env) (next_in c.args.env))) (sym e) (c.is_record_of.ensures n.field-0)

pub has-returns-in-Product : goal.has-returns-in-Product
has-returns-in-Product t c =
    let n = c.in-Product in
    let e = means_product c.args.core.now n.field-0 n.parts n.is ∙ ap (λ us. means-product n.field-0 (parts_of_cores us)) (sym c.deref-in-Product.ensures.value) in
    subst (λ (m : Meaning). GivesTruth c.is_tuple_of.result (m.has (tree_of c.args.value.now) (bound_in c.args.env) (present_in c.args.env) (next_in c.args.env))) (sym e) (c.is_tuple_of.ensures n.field-0)

pub logic::conjunction-returns-in_err-ask : goal.logic::conjunction-returns-in_err-ask
logic::conjunction-returns-in_err-ask t c =
    let p = c.args.place.now in
    let b = bound_in c.args.env in let s = present_in c.args.env in let q = next_in c.args.env in
    let g = conjunction_told p b s q c.args.parts.now c.loop-part.part-index c.part-item.result c.part-item.is c.loop-part-test.true c.in_err-ask.field-0.0 c.in_err-ask.ensures
    (all_hold (λ (m : Meaning). asks p m b s q) (parts_of_cores c.args.parts.now)) c.loop-part.invariant in
    search (rules, g)

pub logic::disjunction-returns-in_err-ask : goal.logic::disjunction-returns-in_err-ask
logic::disjunction-returns-in_err-ask t c =
    let p = c.args.place.now in
    let b = bound_in c.args.env in let s = present_in c.args.env in let q = next_in c.args.env in
    let g = disjunction_told p b s q c.args.parts.now c.loop-part.part-index c.part-item.result c.part-item.is c.loop-part-test.true c.in_err-ask.field-0.0 c.in_err-ask.ensures
    (some_hold (λ (m : Meaning). asks p m b s q) (parts_of_cores c.args.parts.now)) c.loop-part.invariant in
    search (rules, g)

pub set_forms::is_function_into-returns-then-has_domain : goal.set_forms::is_function_into-returns-then-has_domain
set_forms::is_function_into-returns-then-has_domain t c =
    let b = bound_in c.args.env in let s = present_in c.args.env in let q = next_in c.args.env in
    let e = function_into c.args.place.now (means (expr_of c.args.domain.now)) (means (expr_of c.args.range.now)) b s q (tree_of c.args.value.now)
    c.in-Some.function.now (map tree_of c.values.result.now) (tree_of_evaluated c.in_ok-set-in-Some.set) (tree_of c.value.result.now) (map tree_of c.in_ok-arguments-in-Some.arguments.now) c.has_domain.result
    (sym (ap (option_map (λ (f : Bor (List (Tree × Tree))). f.now)) c.in-Some.is) ∙ c.if_function.ensures)
    c.in_ok-set-in-Some.ensures c.value.ensures c.in_ok-arguments-in-Some.ensures c.has_domain.ensures c.if-has_domain.true c.values.ensures.values in
    subst (λ (o : Outcome Bool). GivesTruth c.has_all.result o) (sym e) c.has_all.ensures

pub evaluate-returns-in-Literal : goal.evaluate-returns-in-Literal
evaluate-returns-in-Literal t c =
    let n = c.in-Literal in
    literal_value c.args.core.now n.literal (tree_of c.value.result.now) n.is c.value.ensures (bound_in c.args.env) (present_in c.args.env) (next_in c.args.env)

pub evaluate_other-returns-in-Literal : goal.evaluate_other-returns-in-Literal
evaluate_other-returns-in-Literal t c =
    let n = c.in-Literal in
    literal_value c.args.core.now n.literal (tree_of c.value.result.now) n.is c.value.ensures (bound_in c.args.env) (present_in c.args.env) (next_in c.args.env)

pub has-returns-in-Literal : goal.has-returns-in-Literal
has-returns-in-Literal t c =
    let n = c.in-Literal in
    let v = tree_of c.args.value.now in
    let e = literal_has c.args.core.now n.literal (tree_of c.value.result.now) v n.is c.value.ensures (bound_in c.args.env) (present_in c.args.env) (next_in c.args.env)
    ∙ ap (λ (p : Place). contains_rule p (tree_of c.value.result.now) v) (sym c.lent_place.ensures) in
    subst (λ (o : Outcome Bool). GivesTruth c.contains.result o) (sym e) c.contains.ensures

pub has_other-returns-in-Literal : goal.has_other-returns-in-Literal
has_other-returns-in-Literal t c =
    let n = c.in-Literal in
    let v = tree_of c.args.value.now in
    let e = literal_has c.args.core.now n.literal (tree_of c.value.result.now) v n.is c.value.ensures (bound_in c.args.env) (present_in c.args.env) (next_in c.args.env)
    ∙ ap (λ (p : Place). contains_rule p (tree_of c.value.result.now) v) (sym c.lent_place.ensures) in
    subst (λ (o : Outcome Bool). GivesTruth c.contains.result o) (sym e) c.contains.ensures
