use Rattle.std.proofs.Common.{◌≡◌, ◌+◌}
use Rattle.tla_scopes.specs.Private.LocalScopes.{depth}
use Rattle.tla_scopes.proofs.projections.depth_of.Given as goal

abbrev pub invariant-loop-met : goal.invariant-loop-met
invariant-loop-met l = record { same : l.met + depth l.at ≡ depth l.known }
