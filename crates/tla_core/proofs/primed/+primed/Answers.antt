use Rattle.std.proofs.Common.{◌≡◌, Bool, true, false, ◌||◌, refl, ap, sym, ◌∙◌}
use Rattle.tla_value.specs.Choices.{parts_of}
use Rattle.tla_core.specs.ExprOf.{expr_of, parts_of_cores, fields_of_cores, arms_of_cores, updates_of_cores}
use Rattle.tla_core.specs.declared.expression.Core.{Core}
use Rattle.tla_core.specs.Logic.{arms_primed}
use Rattle.tla_core.specs.Functions.{updates_primed}
use Rattle.tla_core.specs.Value.{means}
use Rattle.tla_core.specs.Meaning.{any_primed}
use Rattle.tla_core.proofs.Parts.{means_enumerated, means_tuple, means_conjunction, means_disjunction, means_record, means_records, means_product, means_image, means_function, means_except, means_cases, means_cases_or}
use Rattle.tla_core.proofs.FixedTrees.{literal_unprimed}
use Rattle.tla_core.proofs.primed.+primed.Goals as goal

pub has_next-returns-in-Enumerated : goal.has_next-returns-in-Enumerated
has_next-returns-in-Enumerated t c =
    let n = c.in-Enumerated in
    c.some_has_next.ensures
    ∙ ap (λ us. any_primed (parts_of_cores us)) c.deref-in-Enumerated.ensures.value
    ∙ sym (ap (λ m. m.primed) (means_enumerated c.args.core.now n.field-0 n.parts n.is))

pub has_next-returns-in-Tuple : goal.has_next-returns-in-Tuple
has_next-returns-in-Tuple t c =
    let n = c.in-Tuple in
    c.some_has_next-in-Tuple.ensures
    ∙ ap (λ us. any_primed (parts_of_cores us)) c.deref-in-Tuple.ensures.value
    ∙ sym (ap (λ m. m.primed) (means_tuple c.args.core.now n.field-0 n.parts n.is))

pub has_next-returns-in-Conjunction : goal.has_next-returns-in-Conjunction
has_next-returns-in-Conjunction t c =
    let n = c.in-Conjunction in
    c.some_has_next-in-Conjunction.ensures
    ∙ ap (λ us. any_primed (parts_of_cores us)) c.deref-in-Conjunction.ensures.value
    ∙ sym (ap (λ m. m.primed) (means_conjunction c.args.core.now n.field-0 n.parts n.is))

pub has_next-returns-in-Disjunction : goal.has_next-returns-in-Disjunction
has_next-returns-in-Disjunction t c =
    let n = c.in-Disjunction in
    c.some_has_next-in-Disjunction.ensures
    ∙ ap (λ us. any_primed (parts_of_cores us)) c.deref-in-Disjunction.ensures.value
    ∙ sym (ap (λ m. m.primed) (means_disjunction c.args.core.now n.field-0 n.parts n.is))

or_false : (b : Bool) → b ≡ (b || false)
or_false true = refl
or_false false = refl

pub has_next-returns-in-Record : goal.has_next-returns-in-Record
has_next-returns-in-Record t c =
    let n = c.in-Record in
    c.fields_have_next.ensures
    ∙ ap (λ us. any_primed (parts_of (fields_of_cores us))) c.deref-in-Record.ensures.value
    ∙ sym (ap (λ m. m.primed) (means_record c.args.core.now n.field-0 n.fields n.is))

pub has_next-returns-in-Records : goal.has_next-returns-in-Records
has_next-returns-in-Records t c =
    let n = c.in-Records in
    c.fields_have_next-in-Records.ensures
    ∙ ap (λ us. any_primed (parts_of (fields_of_cores us))) c.deref-in-Records.ensures.value
    ∙ sym (ap (λ m. m.primed) (means_records c.args.core.now n.field-0 n.fields n.is))

pub has_next-returns-in-Product : goal.has_next-returns-in-Product
has_next-returns-in-Product t c =
    let n = c.in-Product in
    c.some_has_next-in-Product.ensures
    ∙ ap (λ us. any_primed (parts_of_cores us)) c.deref-in-Product.ensures.value
    ∙ sym (ap (λ m. m.primed) (means_product c.args.core.now n.field-0 n.parts n.is))

pub has_next-returns-in-None : goal.has_next-returns-in-None
has_next-returns-in-None t c =
    let n = c.in-Cases in
    c.arms_have_next.ensures
    ∙ ap (λ us. arms_primed (arms_of_cores us)) c.deref-in-None.ensures.value
    ∙ or_false (arms_primed (arms_of_cores n.arms.items))
    ∙ sym (ap (λ m. m.primed) (means_cases c.args.core.now n.field-0 n.arms n.other n.is c.in-None.is))

pub has_next-returns-then-arms_have_next : goal.has_next-returns-then-arms_have_next
has_next-returns-then-arms_have_next t c =
    let n = c.in-Cases in
    let arms : arms_primed (arms_of_cores n.arms.items) ≡ true = sym (c.arms_have_next-in-Some.ensures ∙ ap (λ us. arms_primed (arms_of_cores us)) c.deref-in-Some.ensures.value) ∙ c.if-arms_have_next.true in
    c.if-arms_have_next.true
    ∙ sym (ap (λ m. m.primed) (means_cases_or c.args.core.now n.field-0 n.arms n.other c.in-Some.body n.is c.in-Some.is) ∙ ap (λ b. b || (means (expr_of c.in-Some.body.value)).primed) arms)

pub has_next-returns-else-arms_have_next : goal.has_next-returns-else-arms_have_next
has_next-returns-else-arms_have_next t c =
    let n = c.in-Cases in
    let arms : arms_primed (arms_of_cores n.arms.items) ≡ false = sym (c.arms_have_next-in-Some.ensures ∙ ap (λ us. arms_primed (arms_of_cores us)) c.deref-in-Some.ensures.value) ∙ c.if-arms_have_next.false in
    c.has_next-else-arms_have_next.ensures
    ∙ ap (λ (k : Core). (means (expr_of k)).primed) c.deref-else-arms_have_next.ensures
    ∙ sym (ap (λ m. m.primed) (means_cases_or c.args.core.now n.field-0 n.arms n.other c.in-Some.body n.is c.in-Some.is) ∙ ap (λ b. b || (means (expr_of c.in-Some.body.value)).primed) arms)

pub has_next-returns-then-some_has_next : goal.has_next-returns-then-some_has_next
has_next-returns-then-some_has_next t c =
    let n = c.in-Image in
    let sets : any_primed (parts_of_cores n.sets.items) ≡ true = sym (c.some_has_next-in-Image.ensures ∙ ap (λ us. any_primed (parts_of_cores us)) c.deref-in-Image.ensures.value) ∙ c.if-some_has_next.true in
    c.if-some_has_next.true
    ∙ sym (ap (λ m. m.primed) (means_image c.args.core.now n.field-0 n.sets n.body n.is) ∙ ap (λ b. b || (means (expr_of n.body.value)).primed) sets)

pub has_next-returns-else-some_has_next : goal.has_next-returns-else-some_has_next
has_next-returns-else-some_has_next t c =
    let n = c.in-Image in
    let sets : any_primed (parts_of_cores n.sets.items) ≡ false = sym (c.some_has_next-in-Image.ensures ∙ ap (λ us. any_primed (parts_of_cores us)) c.deref-in-Image.ensures.value) ∙ c.if-some_has_next.false in
    c.has_next-else-some_has_next.ensures
    ∙ ap (λ (k : Core). (means (expr_of k)).primed) c.deref-else-some_has_next.ensures
    ∙ sym (ap (λ m. m.primed) (means_image c.args.core.now n.field-0 n.sets n.body n.is) ∙ ap (λ b. b || (means (expr_of n.body.value)).primed) sets)

pub has_next-returns-then-some_has_next-2 : goal.has_next-returns-then-some_has_next-2
has_next-returns-then-some_has_next-2 t c =
    let n = c.in-Function in
    let sets : any_primed (parts_of_cores n.sets.items) ≡ true = sym (c.some_has_next-in-Function.ensures ∙ ap (λ us. any_primed (parts_of_cores us)) c.deref-in-Function.ensures.value) ∙ c.if-some_has_next-2.true in
    c.if-some_has_next-2.true
    ∙ sym (ap (λ m. m.primed) (means_function c.args.core.now n.field-0 n.sets n.body n.is) ∙ ap (λ b. b || (means (expr_of n.body.value)).primed) sets)

pub has_next-returns-else-some_has_next-2 : goal.has_next-returns-else-some_has_next-2
has_next-returns-else-some_has_next-2 t c =
    let n = c.in-Function in
    let sets : any_primed (parts_of_cores n.sets.items) ≡ false = sym (c.some_has_next-in-Function.ensures ∙ ap (λ us. any_primed (parts_of_cores us)) c.deref-in-Function.ensures.value) ∙ c.if-some_has_next-2.false in
    c.has_next-else-some_has_next-2.ensures
    ∙ ap (λ (k : Core). (means (expr_of k)).primed) c.deref-else-some_has_next-2.ensures
    ∙ sym (ap (λ m. m.primed) (means_function c.args.core.now n.field-0 n.sets n.body n.is) ∙ ap (λ b. b || (means (expr_of n.body.value)).primed) sets)

pub has_next-returns-else-has_next-5 : goal.has_next-returns-else-has_next-5
has_next-returns-else-has_next-5 t c =
    let n = c.in-Except in
    let base : (means (expr_of n.function.value)).primed ≡ false = sym (c.has_next-in-Except.ensures ∙ ap (λ (k : Core). (means (expr_of k)).primed) c.deref-in-Except.ensures) ∙ c.if-has_next-5.false in
    c.updates_have_next.ensures
    ∙ ap (λ us. updates_primed (updates_of_cores us)) c.deref-else-has_next-5.ensures.value
    ∙ sym (ap (λ m. m.primed) (means_except c.args.core.now n.field-0 n.function n.updates n.is) ∙ ap (λ b. b || updates_primed (updates_of_cores n.updates.items)) base)

pub has_next-returns-in-Literal : goal.has_next-returns-in-Literal
has_next-returns-in-Literal t c = sym (literal_unprimed c.args.core.now c.in-Literal.field-0 c.in-Literal.is)
