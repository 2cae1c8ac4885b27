use Rattle.tla_core.specs.ExprOf.{expr_of}
use Rattle.tla_scopes.specs.declared.primes.Primes.TheVariants as read
use Rattle.tla_scopes.specs.Expand.{expand}
use Rattle.tla_expand.specs.Names.{scope_of}
use Rattle.tla_tree.specs.View.{view}
use Rattle.tla_formulas.proofs.Found.{found_assumption, no_assumption}
use Rattle.tla_formulas.proofs.formula.assumption.Goals as goal

pub returns-in-Ok-clause-found : goal.returns-in-Ok-clause-found
returns-in-Ok-clause-found c =
    found_assumption (scope_of c.args.scopes.now) (view c.args.tree.now) (expr_of c.in-Ok.core) c.in-Ok.ensures.found c.in-Ok.ensures.limits

pub returns-in-Err-clause-formula : goal.returns-in-Err-clause-formula
returns-in-Err-clause-formula c = λ h. c.refusal.ensures.formula (expand (view c.args.tree.now) (scope_of c.args.scopes.now) 0) read.Twice c.in-Err.ensures.gone c.in-Err.ensures.large h

pub returns-in-Err-clause-none : goal.returns-in-Err-clause-none
returns-in-Err-clause-none c = λ h. no_assumption (scope_of c.args.scopes.now) (view c.args.tree.now) (c.in-Err.ensures.none (λ m. h (c.refusal.ensures.memory m)))
