use Rattle.std.proofs.Common.{◌≡◌, ◌≤◌, length}
use Rattle.tla_scopes.specs.Private.Index.{found_at}
use Rattle.tla_scopes.specs.Listed.{listed}
use Rattle.tla_scopes.proofs.arena.position.Given as goal

abbrev pub invariant-loop-at : goal.invariant-loop-at
invariant-loop-at l = record {
  within : l.at ≤ length (listed l.entries);
  same : found_at (listed l.entries) l.at l.name ≡ found_at (listed l.entries) l.fn.scope l.name;
}

abbrev pub decreases-loop-at : goal.decreases-loop-at
decreases-loop-at l = l.at
