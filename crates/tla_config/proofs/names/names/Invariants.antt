use Rattle.std.proofs.Common.{◌-◌, ◌≤◌, length}
use Rattle.tla_config.proofs.NameLists.{NamesSoFar}
use Rattle.tla_config.proofs.names.names.Given as goal

abbrev pub invariant-loop-names : goal.invariant-loop-names
invariant-loop-names l = record {
  so_far : NamesSoFar l.text l.tokens l.names.items l.from l.at;
  order : l.from ≤ l.at;
}

abbrev pub decreases-loop-names : goal.decreases-loop-names
decreases-loop-names l = length l.tokens - l.at
