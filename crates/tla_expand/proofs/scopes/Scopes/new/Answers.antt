use Rattle.std.proofs.Common.{[]}
use Rattle.tla_scopes.proofs.Links.{scope_zero}
use Rattle.tla_expand.proofs.scopes.Scopes.new.Goals as goal

pub returns-clause-current : goal.returns-clause-current
returns-clause-current c = rw c.new.ensures.none (scope_zero [])

pub returns-clause-outer : goal.returns-clause-outer
returns-clause-outer c = rw c.new.ensures.none (scope_zero [])
