use Rattle.tla_core.specs.ExprOf.{expr_of}
use Rattle.tla_scopes.specs.declared.primes.Primes.TheVariants as read
use Rattle.tla_scopes.specs.Expand.{expand}
use Rattle.tla_expand.specs.Names.{scope_of}
use Rattle.tla_tree.specs.Tree.{Name}
use Rattle.tla_formulas.proofs.Found.{found_action, no_action}
use Rattle.tla_formulas.proofs.formula.action.Goals as goal

pub returns-in-Ok-clause-found : goal.returns-in-Ok-clause-found
returns-in-Ok-clause-found c =
    found_action (scope_of c.args.scopes.now) (Name c.args.name.now) (expr_of c.in-Ok.core) c.in-Ok.ensures.found c.in-Ok.ensures.limits

pub returns-in-Err-clause-none : goal.returns-in-Err-clause-none
returns-in-Err-clause-none c = λ h. no_action (scope_of c.args.scopes.now) (Name c.args.name.now) (c.in-Err.ensures.none (λ m. h (c.refusal.ensures.memory m)))

pub returns-in-Err-clause-formula : goal.returns-in-Err-clause-formula
returns-in-Err-clause-formula c = λ h. c.refusal.ensures.formula (expand (Name c.args.name.now) (scope_of c.args.scopes.now) 0) read.Never c.in-Err.ensures.gone c.in-Err.ensures.large h
