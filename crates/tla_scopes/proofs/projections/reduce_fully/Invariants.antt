use Rattle.tla_scopes.specs.Scopes.{scope_at}
use Rattle.tla_scopes.specs.Private.LocalScopes.{ComesTo}
use Rattle.tla_scopes.specs.Listed.{listed}
use Rattle.tla_scopes.proofs.projections.reduce_fully.Given as goal

abbrev pub invariant-loop-turn : goal.invariant-loop-turn
invariant-loop-turn l = record { same : ComesTo (scope_at (listed l.entries) l.scope) l.fn.start l.part }
