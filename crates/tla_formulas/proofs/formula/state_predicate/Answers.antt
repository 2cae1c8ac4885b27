use Rattle.std.proofs.lemmas.Result.{err_from_is_err_and}
use Rattle.tla_core.specs.ExprOf.{expr_of}
use Rattle.tla_expand.specs.Names.{scope_of}
use Rattle.tla_formulas.specs.Formulas.{meaning_in}
use Rattle.tla_formulas.proofs.Found.{found_predicate, not_initial, not_action, once_told}
use Rattle.tla_formulas.proofs.Found.{if_err, if_ok}
use Rattle.tla_formulas.proofs.formula.state_predicate.Goals as goal

pub returns-in_err-over_next-clause-formula : goal.returns-in_err-over_next-clause-formula
returns-in_err-over_next-clause-formula c =
    let e = err_from_is_err_and c.from_residual.result c.from_residual.ensures.1 in
    rw (e.1, e.2) c.in_err-over_next.ensures.formula

pub returns-in_err-over_next-clause-none : goal.returns-in_err-over_next-clause-none
returns-in_err-over_next-clause-none c =
    let e = err_from_is_err_and c.from_residual.result c.from_residual.ensures.1 in
    rw (e.1, e.2) (λ h. not_initial (scope_of c.args.scopes.now) c.args.name.now (c.in_err-over_next.ensures.none h))

pub returns-clause-found : goal.returns-clause-found
returns-clause-found c = if_ok c.action.result (λ x a. found_predicate (scope_of c.args.scopes.now) c.args.name.now (expr_of c.in_ok-over_next.over_next) (expr_of x) c.in_ok-over_next.ensures.found a) c.action.ensures.found

pub returns-clause-formula : goal.returns-clause-formula
returns-clause-formula c = if_err c.action.result (λ e told h. once_told (meaning_in (scope_of c.args.scopes.now) c.args.name.now) e (told h)) c.action.ensures.formula

pub returns-clause-none : goal.returns-clause-none
returns-clause-none c = if_err c.action.result (λ e none h. not_action (scope_of c.args.scopes.now) c.args.name.now (none h)) c.action.ensures.none
