use Rattle.tla_defs.specs.Private.Passes.{global}
use Rattle.tla_defs.proofs.OneScope.{has_scope, only_scope}
use Rattle.tla_defs.proofs.laws.one_scope.Goals as goal

pub returns-clause-has : goal.returns-clause-has
returns-clause-has c = λ us is h. (global us is, has_scope us is h)

pub returns-clause-only : goal.returns-clause-only
returns-clause-only c = λ us is σ τ h. only_scope us is σ τ h
