use Rattle.std.proofs.Common.{◌≤◌, length, drop}
use Rattle.tla_scopes.specs.Private.Parameters.{IsAbsent}
use Rattle.tla_scopes.proofs.shortened.last_of.Given as goal

abbrev pub invariant-loop-at : goal.invariant-loop-at
invariant-loop-at l = record {
  within : l.at ≤ length l.parameters;
  absent : IsAbsent l.name (drop l.at l.parameters);
}

abbrev pub decreases-loop-at : goal.decreases-loop-at
decreases-loop-at l = l.at
