use Rattle.std.proofs.Common.{◌-◌, ◌+◌, ◌*◌, ◌<◌, length, map}
use Rattle.tla_value.specs.TreeOf.{tree_of}
use Rattle.tla_config.proofs.Members.{MembersSoFar, MembersBefore, Onward}
use Rattle.tla_config.proofs.values.+value.Given as goal

abbrev pub decreases-members : goal.decreases-members
decreases-members l = 2 * l.room + 1

abbrev pub decreases-value : goal.decreases-value
decreases-value l = 2 * l.room

abbrev pub invariant-members-loop-values : goal.invariant-members-loop-values
invariant-members-loop-values l = record {
  so_far : MembersSoFar l.text l.tokens (map tree_of l.values.items) l.from l.at;
  before : MembersBefore l.text l.tokens l.from l.at;
  onward : Onward l.text l.tokens l.room l.from l.at;
  order : l.from < l.at;
}

abbrev pub decreases-members-loop-values : goal.decreases-members-loop-values
decreases-members-loop-values l = length l.tokens - l.at
