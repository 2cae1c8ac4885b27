use Rattle.std.proofs.Common.{◌+◌, ℕ, List, [], ◌∷◌, ◌++◌, refl, ap, sym, subst, ◌∙◌, take, Vec, Bor, Global}
use Rattle.std.proofs.lemmas.List.{append-nil}
use Rattle.std.proofs.lemmas.Slice.Zip.{all_zipped_more}
use Rattle.std.specs.List.{AllZip}
use Rattle.tla_core.specs.Expr.{enumerated, tuple, conjunction, disjunction, product, cases, no_arms, other, record_of, records, image, function, except}
use Rattle.tla_core.specs.ExprOf.{expr_of}
use Rattle.tla_core.specs.declared.expression.Core.{Core}
use Rattle.tla_core.specs.declared.expression.Core.TheViews as cores
use Rattle.tla_code.specs.Forms.{list_expr, field_expr, map_expr, arms_in}
use Rattle.tla_code.specs.declared.code.ListForm.TheVariants.{Cases}
use Rattle.tla_code.specs.declared.code.Code.{Code}
use Rattle.tla_code.specs.Private.Listed.{exprs_of_cores, fields_of_list, parts_of_arms, arms_of_list, arm_of_other, updates_of_list, StandsFor, FieldStandsFor, UpdateStandsFor}
use Rattle.tla_code.proofs.Listed.{zip_more, all_stand, fields_stand, updates_stand, arms_read, arms_more, enumerated_in, tuple_in, conjunction_in, disjunction_in, product_in, cases_in, cases_or_in, record_of_in, records_in, image_in, function_in, except_in, list_in, fields_of_in, map_in, except_of_in, stands}
use Rattle.tla_code.proofs.arranged.+arrange.Goals as goal

-- ---- forms with lists: the parts of the node, and of its list in memory

pub arranged_other-returns-in-Enumerated : goal.arranged_other-returns-in-Enumerated
arranged_other-returns-in-Enumerated t c =
    let m = c.in-Enumerated in
    stands c.args.core.now _ c.list.result (ap (λ ps. enumerated m.place (exprs_of_cores ps)) c.deref-in-Enumerated.ensures.value ∙ sym (ap expr_of m.is ∙ enumerated_in m.place m.parts)) c.list.ensures

pub arranged_other-returns-in-Tuple : goal.arranged_other-returns-in-Tuple
arranged_other-returns-in-Tuple t c =
    let m = c.in-Tuple in
    stands c.args.core.now _ c.list-in-Tuple.result (ap (λ ps. tuple m.place (exprs_of_cores ps)) c.deref-in-Tuple.ensures.value ∙ sym (ap expr_of m.is ∙ tuple_in m.place m.parts)) c.list-in-Tuple.ensures

pub arranged_other-returns-in-Conjunction : goal.arranged_other-returns-in-Conjunction
arranged_other-returns-in-Conjunction t c =
    let m = c.in-Conjunction in
    stands c.args.core.now _ c.list-in-Conjunction.result (ap (λ ps. conjunction m.place (exprs_of_cores ps)) c.deref-in-Conjunction.ensures.value ∙ sym (ap expr_of m.is ∙ conjunction_in m.place m.parts)) c.list-in-Conjunction.ensures

pub arranged_other-returns-in-Disjunction : goal.arranged_other-returns-in-Disjunction
arranged_other-returns-in-Disjunction t c =
    let m = c.in-Disjunction in
    stands c.args.core.now _ c.list-in-Disjunction.result (ap (λ ps. disjunction m.place (exprs_of_cores ps)) c.deref-in-Disjunction.ensures.value ∙ sym (ap expr_of m.is ∙ disjunction_in m.place m.parts)) c.list-in-Disjunction.ensures

pub arranged_other-returns-in-Product : goal.arranged_other-returns-in-Product
arranged_other-returns-in-Product t c =
    let m = c.in-Product in
    stands c.args.core.now _ c.list-in-Product.result (ap (λ ps. product m.place (exprs_of_cores ps)) c.deref-in-Product.ensures.value ∙ sym (ap expr_of m.is ∙ product_in m.place m.parts)) c.list-in-Product.ensures

pub arranged_other-returns-in-Record : goal.arranged_other-returns-in-Record
arranged_other-returns-in-Record t c =
    let m = c.in-Record in
    stands c.args.core.now _ c.named.result (ap (λ fs. record_of m.place (fields_of_list fs)) c.deref-in-Record.ensures.value ∙ sym (ap expr_of m.is ∙ record_of_in m.place m.fields)) c.named.ensures

pub arranged_other-returns-in-Records : goal.arranged_other-returns-in-Records
arranged_other-returns-in-Records t c =
    let m = c.in-Records in
    stands c.args.core.now _ c.named-in-Records.result (ap (λ fs. records m.place (fields_of_list fs)) c.deref-in-Records.ensures.value ∙ sym (ap expr_of m.is ∙ records_in m.place m.fields)) c.named-in-Records.ensures

pub arranged_other-returns-in-Image : goal.arranged_other-returns-in-Image
arranged_other-returns-in-Image t c =
    let m = c.in-Image in
    stands c.args.core.now _ c.mapped.result ((λ i. image m.place (exprs_of_cores (c.deref-in-Image.ensures.value i)) (expr_of (c.deref-in-Image-2.ensures i))) ∙ sym (ap expr_of m.is ∙ image_in m.place m.sets m.body)) c.mapped.ensures

pub arranged_other-returns-in-Function : goal.arranged_other-returns-in-Function
arranged_other-returns-in-Function t c =
    let m = c.in-Function in
    stands c.args.core.now _ c.mapped-in-Function.result ((λ i. function m.place (exprs_of_cores (c.deref-in-Function.ensures.value i)) (expr_of (c.deref-in-Function-2.ensures i))) ∙ sym (ap expr_of m.is ∙ function_in m.place m.sets m.body)) c.mapped-in-Function.ensures

pub arranged_other-returns-in-Except : goal.arranged_other-returns-in-Except
arranged_other-returns-in-Except t c =
    let m = c.in-Except in
    stands c.args.core.now _ c.updated.result ((λ i. except m.place (expr_of (c.deref-in-Except-2.ensures i)) (updates_of_list (c.deref-in-Except.ensures.value i))) ∙ sym (ap expr_of m.is ∙ except_in m.place m.base m.updates)) c.updated.ensures

pub arranged_other-returns-in-None : goal.arranged_other-returns-in-None
arranged_other-returns-in-None t c =
    let m = c.in-Cases in
    stands c.args.core.now _ c.cases.result (ap (λ us. cases m.place (arms_of_list us no_arms)) c.deref-in-None.ensures.value ∙ sym (ap expr_of (m.is ∙ ap (cores.Cases m.place m.arms) c.in-None.is) ∙ cases_in m.place m.arms)) c.cases.ensures

pub arranged_other-returns-in-Some : goal.arranged_other-returns-in-Some
arranged_other-returns-in-Some t c =
    let m = c.in-Cases in
    let body = c.in-Some.body in
    stands c.args.core.now _ c.cases-in-Some.result
    ((λ i. cases m.place (arms_of_list (c.deref-in-Some.ensures.value i) (other (expr_of (c.deref-in-Some-2.ensures i)))))
    ∙ sym (ap expr_of (m.is ∙ ap (cores.Cases m.place m.arms) c.in-Some.is) ∙ cases_or_in m.place m.arms body)) c.cases-in-Some.ensures

-- ---- nodes of codes that denote the parts
-- a CASE of parts, the last of which may be that of OTHER
pub cases-returns-in_ok-push-in-Some : goal.cases-returns-in_ok-push-in-Some
cases-returns-in_ok-push-in-Some t c = λ scope.
    let arms = c.args.arms.now in
    let body = c.in-Some.body in
    let all : AllZip StandsFor (parts_of_arms arms ++ body.now ∷ []) c.push.new.self.items = subst (λ (us : List Code). AllZip StandsFor (parts_of_arms arms ++ body.now ∷ []) us) (sym {A = List Code} c.in_ok-push-in-Some.ensures.items)
    (all_zipped_more StandsFor (parts_of_arms arms) c.in_ok-parts.parts.items body.now c.in_ok-arranged-in-Some.field-0 c.in_ok-parts.ensures c.in_ok-arranged-in-Some.ensures) in
    list_in scope c.args.place Cases c.push.new.self
    ∙ ap (λ es. cases c.args.place (arms_in es)) (all_stand scope (parts_of_arms arms ++ body.now ∷ []) c.push.new.self.items all)
    ∙ ap (cases c.args.place) (arms_read arms (body.now ∷ []))
    ∙ ap (λ o. cases c.args.place (arms_of_list arms (arm_of_other o))) (sym c.in-Some.is)

pub cases-returns-in-None : goal.cases-returns-in-None
cases-returns-in-None t c = λ scope.
    let arms = c.args.arms.now in
    list_in scope c.args.place Cases c.in_ok-parts.parts
    ∙ ap (λ es. cases c.args.place (arms_in es)) (all_stand scope (parts_of_arms arms) c.in_ok-parts.parts.items c.in_ok-parts.ensures)
    ∙ ap (λ us. cases c.args.place (arms_in (exprs_of_cores us))) (sym (append-nil (parts_of_arms arms)))
    ∙ ap (cases c.args.place) (arms_read arms [])
    ∙ ap (λ o. cases c.args.place (arms_of_list arms (arm_of_other o))) (sym c.in-None.is)

pub list-returns : goal.list-returns
list-returns t c = λ scope. list_in scope c.args.place c.args.form c.in_ok-parts.parts ∙ ap (list_expr c.args.form c.args.place) (all_stand scope c.args.parts.now c.in_ok-parts.parts.items c.in_ok-parts.ensures)

pub named-returns : goal.named-returns
named-returns t c = λ scope. fields_of_in scope c.args.place c.args.form c.in_ok-fields.fields ∙ ap (field_expr c.args.form c.args.place) (fields_stand scope c.args.fields.now c.in_ok-fields.fields.items c.in_ok-fields.ensures)

pub mapped-returns : goal.mapped-returns
mapped-returns t c = λ scope. map_in scope c.args.place c.args.form c.in_ok-sets.sets c.in_ok-body.body ∙ (λ i. map_expr c.args.form c.args.place (all_stand scope c.args.sets.now c.in_ok-sets.sets.items c.in_ok-sets.ensures i) (c.in_ok-body.ensures scope i))

pub updated-returns : goal.updated-returns
updated-returns t c = λ scope. except_of_in scope c.args.place c.in_ok-base.base c.in_ok-updates.updates ∙ (λ i. except c.args.place (c.in_ok-base.ensures scope i) (updates_stand scope c.args.updates.now c.in_ok-updates.updates.items c.in_ok-updates.ensures i))

-- ---- lists, part by part
pub arranged_all-loop-part-preserved : goal.arranged_all-loop-part-preserved
arranged_all-loop-part-preserved t c =
    subst (λ (us : List Code). AllZip StandsFor (take (c.loop-part.part-index + 1) c.args.parts.now) us) (sym {A = List Code} c.in_ok-push.ensures.items)
    (zip_more StandsFor c.args.parts.now c.loop-part.codes.items c.loop-part.part-index c.part-item.result c.in_ok-arranged.field-0 c.loop-part-test.true c.part-item.is c.loop-part.invariant c.in_ok-arranged.ensures)

pub arranged_arms-loop-arm-preserved : goal.arranged_arms-loop-arm-preserved
arranged_arms-loop-arm-preserved t c =
    let arms = c.args.arms.now in
    let i = c.loop-arm.arm-index in
    let a = c.arm-item.result in
    let first : AllZip StandsFor (parts_of_arms (take i arms) ++ a.0 ∷ []) c.push.new.self.items = subst (λ (us : List Code). AllZip StandsFor (parts_of_arms (take i arms) ++ a.0 ∷ []) us) (sym {A = List Code} c.in_ok-push.ensures.items)
    (all_zipped_more StandsFor (parts_of_arms (take i arms)) c.loop-arm.codes.items a.0 c.in_ok-arranged.field-0 c.loop-arm.invariant c.in_ok-arranged.ensures) in
    subst (λ (xs : List Core). AllZip StandsFor xs c.push-in-loop-arm.new.self.items) (sym (arms_more arms i a c.loop-arm-test.true c.arm-item.is))
    (subst (λ (us : List Code). AllZip StandsFor ((parts_of_arms (take i arms) ++ a.0 ∷ []) ++ a.1 ∷ []) us) (sym {A = List Code} c.in_ok-push-2.ensures.items)
    (all_zipped_more StandsFor (parts_of_arms (take i arms) ++ a.0 ∷ []) c.push.new.self.items a.1 c.in_ok-arranged-2.field-0 first c.in_ok-arranged-2.ensures))

pub arranged_fields-loop-field-preserved : goal.arranged_fields-loop-field-preserved
arranged_fields-loop-field-preserved t c =
    subst (λ (us : List (Bor (List ℕ) × Code)). AllZip FieldStandsFor (take (c.loop-field.field-index + 1) c.args.fields.now) us) (sym {A = List (Bor (List ℕ) × Code)} c.in_ok-push.ensures.items)
    (zip_more FieldStandsFor c.args.fields.now c.loop-field.codes.items c.loop-field.field-index c.field-item.result (record { ref_ptr = _; now = c.field-item.result.0 }, c.in_ok-code.code) c.loop-field-test.true c.field-item.is c.loop-field.invariant (refl, c.in_ok-code.ensures))

pub arranged_updates-loop-update-preserved : goal.arranged_updates-loop-update-preserved
arranged_updates-loop-update-preserved t c =
    subst (λ (us : List (Vec Code Global × Code)). AllZip UpdateStandsFor (take (c.loop-update.update-index + 1) c.args.updates.now) us) (sym {A = List (Vec Code Global × Code)} c.in_ok-push.ensures.items)
    (zip_more UpdateStandsFor c.args.updates.now c.loop-update.codes.items c.loop-update.update-index c.update-item.result (c.in_ok-keys.keys, c.in_ok-value.value) c.loop-update-test.true c.update-item.is c.loop-update.invariant (subst (λ (cs : List Core). AllZip StandsFor cs c.in_ok-keys.keys.items) c.as_slice.ensures.value c.in_ok-keys.ensures, c.in_ok-value.ensures))
