use Rattle.tla_scopes.proofs.Links.{scope_zero}
use Rattle.tla_scopes.specs.Listed.{listed}
use Rattle.tla_expand.proofs.scopes.Scopes.anew.Goals as goal

pub returns-clause-current : goal.returns-clause-current
returns-clause-current c = scope_zero (listed c.args.self.entries)
