use Rattle.std.proofs.Common.{List, ◌∙◌, ap, map, subst}
use Rattle.std.proofs.lemmas.Result.{err_from_is_err_and}
use Rattle.tla_expand.specs.Names.{scope_of}
use Rattle.tla_model.specs.ModelOf.{predicate_of}
use Rattle.tla_tree.specs.declared.word.Written.{Written}
use Rattle.tla_defs.specs.Private.Formulas.{LacksPredicate, mentions}
use Rattle.tla_defs.specs.Model.{AreStatePredicates}
use Rattle.tla_defs.specs.Refused.{IsOfPredicate}
use Rattle.tla_defs.proofs.builder.invariants.Goals as goal

pub returns-clause-found : goal.returns-clause-found
returns-clause-found c =
    subst (λ (ws : List Written). AreStatePredicates (scope_of c.args.scopes.now) ws (map predicate_of c.in_ok-predicates.predicates.items)) (ap mentions c.as_slice.ensures.value ∙ c.in_ok-named.ensures.ok) c.in_ok-predicates.ensures.found

pub returns-in_err-named-clause-none : goal.returns-in_err-named-clause-none
returns-in_err-named-clause-none c =
    let e = err_from_is_err_and c.from_residual.result c.from_residual.ensures.1 in
    rw (e.1, e.2) (λ h. absurd (h c.in_err-named.ensures.err))

pub returns-in_err-predicates-clause-none : goal.returns-in_err-predicates-clause-none
returns-in_err-predicates-clause-none c =
    let e = err_from_is_err_and c.from_residual-in_err-predicates.result c.from_residual-in_err-predicates.ensures.1 in
    rw (e.1, e.2) (λ h. subst (λ (ws : List Written). LacksPredicate (scope_of c.args.scopes.now) ws) (ap mentions c.as_slice.ensures.value ∙ c.in_ok-named.ensures.ok) (c.in_err-predicates.ensures.none h))

pub returns-in_err-predicates-clause-formula : goal.returns-in_err-predicates-clause-formula
returns-in_err-predicates-clause-formula c =
    let e = err_from_is_err_and c.from_residual-in_err-predicates.result c.from_residual-in_err-predicates.ensures.1 in
    rw (e.1, e.2) (λ h. subst (λ (ws : List Written). IsOfPredicate (scope_of c.args.scopes.now) ws c.in_err-predicates.field-0.0) (ap mentions c.as_slice.ensures.value ∙ c.in_ok-named.ensures.ok) (c.in_err-predicates.ensures.formula h))

pub returns-in_err-named-clause-formula : goal.returns-in_err-named-clause-formula
returns-in_err-named-clause-formula c =
    let e = err_from_is_err_and c.from_residual.result c.from_residual.ensures.1 in
    rw (e.1, e.2) (λ h. absurd (h c.in_err-named.ensures.err))
