use Rattle.std.proofs.Common.{[], ◌∷◌}
use Rattle.tla_scopes.proofs.Links.{scope_keep}
use Rattle.tla_scopes.specs.Listed.{listed}
use Rattle.tla_expand.proofs.scopes.Scopes.with_entry.Goals as goal

pub returns-clause-outer : goal.returns-clause-outer
returns-clause-outer c = rw c.in_ok-current.ensures.added (scope_keep (listed c.args.self.entries) (c.args.entry ∷ []) c.args.self.outer c.args.self.outer_within)
