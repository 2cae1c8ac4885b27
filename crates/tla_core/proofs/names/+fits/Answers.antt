use Rattle.std.proofs.Common.{◌≡◌, ℕ, ◌+◌, length, subst, List, Bool, true, false, ◌&&◌, map, ap, sym, ◌∙◌}
use Rattle.std.specs.List.{list_all}
use Rattle.tla_core.specs.Expr.{Expr}
use Rattle.tla_core.specs.ExprOf.{expr_of, exprs_of_arm, update_fits}
use Rattle.tla_core.specs.declared.expression.Core.{Core}
use Rattle.tla_core.specs.Fits.{fits, Counts}
use Rattle.tla_core.proofs.Loops.{list_all_step, list_all_stop, list_all_end}
use Rattle.tla_core.proofs.Parts.{enumerated_fits, tuple_fits, conjunction_fits, disjunction_fits, record_fits, image_fits, function_fits, records_fits, product_fits, except_fits, arm_fits, cases_fit, cases_or_fit}
use Rattle.tla_core.proofs.FixedTrees.{literal_fits}
use Rattle.tla_core.proofs.names.+fits.Goals as goal

pub fits_within-returns-in-Enumerated : goal.fits_within-returns-in-Enumerated
fits_within-returns-in-Enumerated t c = λ n h.
    let m = c.in-Enumerated in
    c.all_fit-in-Enumerated.ensures n h
    ∙ ap (λ us. list_all (λ (e : Expr). fits e n c.args.variables c.args.now) (map expr_of us)) c.deref-in-Enumerated.ensures.value
    ∙ sym (ap (λ k. fits (expr_of k) n c.args.variables c.args.now) m.is ∙ enumerated_fits m.field-0 m.parts n c.args.variables c.args.now)

pub fits_within-returns-in-Tuple : goal.fits_within-returns-in-Tuple
fits_within-returns-in-Tuple t c = λ n h.
    let m = c.in-Tuple in
    c.all_fit-in-Tuple.ensures n h
    ∙ ap (λ us. list_all (λ (e : Expr). fits e n c.args.variables c.args.now) (map expr_of us)) c.deref-in-Tuple.ensures.value
    ∙ sym (ap (λ k. fits (expr_of k) n c.args.variables c.args.now) m.is ∙ tuple_fits m.field-0 m.parts n c.args.variables c.args.now)

pub fits_within-returns-in-Conjunction : goal.fits_within-returns-in-Conjunction
fits_within-returns-in-Conjunction t c = λ n h.
    let m = c.in-Conjunction in
    c.all_fit-in-Conjunction.ensures n h
    ∙ ap (λ us. list_all (λ (e : Expr). fits e n c.args.variables c.args.now) (map expr_of us)) c.deref-in-Conjunction.ensures.value
    ∙ sym (ap (λ k. fits (expr_of k) n c.args.variables c.args.now) m.is ∙ conjunction_fits m.field-0 m.parts n c.args.variables c.args.now)

pub fits_within-returns-in-Disjunction : goal.fits_within-returns-in-Disjunction
fits_within-returns-in-Disjunction t c = λ n h.
    let m = c.in-Disjunction in
    c.all_fit-in-Disjunction.ensures n h
    ∙ ap (λ us. list_all (λ (e : Expr). fits e n c.args.variables c.args.now) (map expr_of us)) c.deref-in-Disjunction.ensures.value
    ∙ sym (ap (λ k. fits (expr_of k) n c.args.variables c.args.now) m.is ∙ disjunction_fits m.field-0 m.parts n c.args.variables c.args.now)

pub all_fit-loop-part-preserved : goal.all_fit-loop-part-preserved
all_fit-loop-part-preserved t c = λ n h.
    let test : Expr → Bool = λ e. fits e n c.args.variables c.args.now in
    c.loop-part.invariant n h
    ∙ list_all_step test c.args.parts.now c.loop-part.part-index c.part-item.result c.part-item.is c.loop-part-test.true (sym (c.fits_within.ensures n h) ∙ c.if-not-fits_within.false)

pub all_fit-returns-then-not-fits_within : goal.all_fit-returns-then-not-fits_within
all_fit-returns-then-not-fits_within t c = λ n h.
    let test : Expr → Bool = λ e. fits e n c.args.variables c.args.now in
    sym (c.loop-part.invariant n h
    ∙ list_all_stop test c.args.parts.now c.loop-part.part-index c.part-item.result c.part-item.is c.loop-part-test.true (sym (c.fits_within.ensures n h) ∙ c.if-not-fits_within.true))

pub all_fit-returns : goal.all_fit-returns
all_fit-returns t c = λ n h.
    let test : Expr → Bool = λ e. fits e n c.args.variables c.args.now in
    sym (c.loop-part.invariant n h ∙ list_all_end test c.args.parts.now c.loop-part.part-index c.loop-part-test.false)

pub fits_within-returns-in-Record : goal.fits_within-returns-in-Record
fits_within-returns-in-Record t c = λ n h.
    let m = c.in-Record in
    c.fields_fit.ensures n h
    ∙ ap (λ us. list_all (λ (e : Expr). fits e n c.args.variables c.args.now) (map (λ (f : List ℕ × Core). expr_of f.1) us)) c.deref-in-Record.ensures.value
    ∙ sym (ap (λ k. fits (expr_of k) n c.args.variables c.args.now) m.is ∙ record_fits m.field-0 m.fields n c.args.variables c.args.now)

pub fits_within-returns-in-Records : goal.fits_within-returns-in-Records
fits_within-returns-in-Records t c = λ n h.
    let m = c.in-Records in
    c.fields_fit-in-Records.ensures n h
    ∙ ap (λ us. list_all (λ (e : Expr). fits e n c.args.variables c.args.now) (map (λ (f : List ℕ × Core). expr_of f.1) us)) c.deref-in-Records.ensures.value
    ∙ sym (ap (λ k. fits (expr_of k) n c.args.variables c.args.now) m.is ∙ records_fits m.field-0 m.fields n c.args.variables c.args.now)

pub fits_within-returns-in-Product : goal.fits_within-returns-in-Product
fits_within-returns-in-Product t c = λ n h.
    let m = c.in-Product in
    c.all_fit-in-Product.ensures n h
    ∙ ap (λ us. list_all (λ (e : Expr). fits e n c.args.variables c.args.now) (map expr_of us)) c.deref-in-Product.ensures.value
    ∙ sym (ap (λ k. fits (expr_of k) n c.args.variables c.args.now) m.is ∙ product_fits m.field-0 m.parts n c.args.variables c.args.now)

pub fits_within-returns-in-None : goal.fits_within-returns-in-None
fits_within-returns-in-None t c = λ n h.
    let m = c.in-Cases in
    c.arms_fit.ensures n h
    ∙ ap (λ us. list_all (arm_fits n c.args.variables c.args.now) (map exprs_of_arm us)) c.deref-in-None.ensures.value
    ∙ sym (cases_fit c.args.core.now m.field-0 m.arms m.other m.is c.in-None.is n c.args.variables c.args.now)

pub fits_within-returns-then-arms_fit : goal.fits_within-returns-then-arms_fit
fits_within-returns-then-arms_fit t c = λ n h.
    let m = c.in-Cases in
    let arms : list_all (arm_fits n c.args.variables c.args.now) (map exprs_of_arm m.arms.items) ≡ true =
    sym (c.arms_fit-in-Some.ensures n h ∙ ap (λ us. list_all (arm_fits n c.args.variables c.args.now) (map exprs_of_arm us)) c.deref-in-Some.ensures.value) ∙ c.if-arms_fit.true in
    c.fits_within-then-arms_fit.ensures n h
    ∙ ap (λ (k : Core). fits (expr_of k) n c.args.variables c.args.now) c.deref-then-arms_fit.ensures
    ∙ sym (cases_or_fit c.args.core.now m.field-0 m.arms m.other c.in-Some.body m.is c.in-Some.is n c.args.variables c.args.now ∙ ap (λ b. b && fits (expr_of c.in-Some.body.value) n c.args.variables c.args.now) arms)

pub fits_within-returns-else-arms_fit : goal.fits_within-returns-else-arms_fit
fits_within-returns-else-arms_fit t c = λ n h.
    let m = c.in-Cases in
    let arms : list_all (arm_fits n c.args.variables c.args.now) (map exprs_of_arm m.arms.items) ≡ false =
    sym (c.arms_fit-in-Some.ensures n h ∙ ap (λ us. list_all (arm_fits n c.args.variables c.args.now) (map exprs_of_arm us)) c.deref-in-Some.ensures.value) ∙ c.if-arms_fit.false in
    c.if-arms_fit.false
    ∙ sym (cases_or_fit c.args.core.now m.field-0 m.arms m.other c.in-Some.body m.is c.in-Some.is n c.args.variables c.args.now ∙ ap (λ b. b && fits (expr_of c.in-Some.body.value) n c.args.variables c.args.now) arms)

pub fits_within-returns-then-all_fit : goal.fits_within-returns-then-all_fit
fits_within-returns-then-all_fit t c = λ n h.
    let m = c.in-Image in
    let sets : list_all (λ (e : Expr). fits e n c.args.variables c.args.now) (map expr_of m.sets.items) ≡ true =
    sym (c.all_fit.ensures n h ∙ ap (λ us. list_all (λ (e : Expr). fits e n c.args.variables c.args.now) (map expr_of us)) c.deref-in-Image.ensures.value) ∙ c.if-all_fit.true in
    c.fits_within-then-all_fit.ensures (n + length m.sets.items) (subst (λ k. Counts c.with_more.result (n + k)) (c.len.ensures ∙ sym c.deref-in-Image.ensures.len ∙ ap length c.deref-in-Image.ensures.value) (c.with_more.ensures n h))
    ∙ ap (λ (k : Core). fits (expr_of k) (n + length m.sets.items) c.args.variables c.args.now) c.deref-then-all_fit.ensures
    ∙ sym (ap (λ k. fits (expr_of k) n c.args.variables c.args.now) m.is ∙ image_fits m.field-0 m.sets m.body n c.args.variables c.args.now ∙ ap (λ b. b && fits (expr_of m.body.value) (n + length m.sets.items) c.args.variables c.args.now) sets)

pub fits_within-returns-else-all_fit : goal.fits_within-returns-else-all_fit
fits_within-returns-else-all_fit t c = λ n h.
    let m = c.in-Image in
    let sets : list_all (λ (e : Expr). fits e n c.args.variables c.args.now) (map expr_of m.sets.items) ≡ false =
    sym (c.all_fit.ensures n h ∙ ap (λ us. list_all (λ (e : Expr). fits e n c.args.variables c.args.now) (map expr_of us)) c.deref-in-Image.ensures.value) ∙ c.if-all_fit.false in
    c.if-all_fit.false
    ∙ sym (ap (λ k. fits (expr_of k) n c.args.variables c.args.now) m.is ∙ image_fits m.field-0 m.sets m.body n c.args.variables c.args.now ∙ ap (λ b. b && fits (expr_of m.body.value) (n + length m.sets.items) c.args.variables c.args.now) sets)

pub fits_within-returns-then-all_fit-2 : goal.fits_within-returns-then-all_fit-2
fits_within-returns-then-all_fit-2 t c = λ n h.
    let m = c.in-Function in
    let sets : list_all (λ (e : Expr). fits e n c.args.variables c.args.now) (map expr_of m.sets.items) ≡ true =
    sym (c.all_fit-in-Function.ensures n h ∙ ap (λ us. list_all (λ (e : Expr). fits e n c.args.variables c.args.now) (map expr_of us)) c.deref-in-Function.ensures.value) ∙ c.if-all_fit-2.true in
    c.fits_within-then-all_fit-2.ensures (n + length m.sets.items) (subst (λ k. Counts c.with_more-then-all_fit-2.result (n + k)) (c.len-then-all_fit-2.ensures ∙ sym c.deref-in-Function.ensures.len ∙ ap length c.deref-in-Function.ensures.value) (c.with_more-then-all_fit-2.ensures n h))
    ∙ ap (λ (k : Core). fits (expr_of k) (n + length m.sets.items) c.args.variables c.args.now) c.deref-then-all_fit-2.ensures
    ∙ sym (ap (λ k. fits (expr_of k) n c.args.variables c.args.now) m.is ∙ function_fits m.field-0 m.sets m.body n c.args.variables c.args.now ∙ ap (λ b. b && fits (expr_of m.body.value) (n + length m.sets.items) c.args.variables c.args.now) sets)

pub fits_within-returns-else-all_fit-2 : goal.fits_within-returns-else-all_fit-2
fits_within-returns-else-all_fit-2 t c = λ n h.
    let m = c.in-Function in
    let sets : list_all (λ (e : Expr). fits e n c.args.variables c.args.now) (map expr_of m.sets.items) ≡ false =
    sym (c.all_fit-in-Function.ensures n h ∙ ap (λ us. list_all (λ (e : Expr). fits e n c.args.variables c.args.now) (map expr_of us)) c.deref-in-Function.ensures.value) ∙ c.if-all_fit-2.false in
    c.if-all_fit-2.false
    ∙ sym (ap (λ k. fits (expr_of k) n c.args.variables c.args.now) m.is ∙ function_fits m.field-0 m.sets m.body n c.args.variables c.args.now ∙ ap (λ b. b && fits (expr_of m.body.value) (n + length m.sets.items) c.args.variables c.args.now) sets)

pub fits_within-returns-then-fits_within-5 : goal.fits_within-returns-then-fits_within-5
fits_within-returns-then-fits_within-5 t c = λ n h.
    let m = c.in-Except in
    let base : fits (expr_of m.function.value) n c.args.variables c.args.now ≡ true =
    sym (c.fits_within-in-Except.ensures n h ∙ ap (λ (k : Core). fits (expr_of k) n c.args.variables c.args.now) c.deref-in-Except.ensures) ∙ c.if-fits_within-5.true in
    c.updates_fit.ensures n h
    ∙ ap (λ us. list_all (update_fits n c.args.variables c.args.now) us) c.deref-then-fits_within-5.ensures.value
    ∙ sym (ap (λ k. fits (expr_of k) n c.args.variables c.args.now) m.is ∙ except_fits m.field-0 m.function m.updates n c.args.variables c.args.now ∙ ap (λ b. b && list_all (update_fits n c.args.variables c.args.now) m.updates.items) base)

pub fits_within-returns-in-Literal : goal.fits_within-returns-in-Literal
fits_within-returns-in-Literal t c = λ n h. sym (literal_fits c.args.core.now c.in-Literal.field-0 c.in-Literal.is n c.args.variables c.args.now)
