use Rattle.std.proofs.Common.{◌-◌, ◌≤◌, length, map}
use Rattle.tla_config.specs.View.{item_view}
use Rattle.tla_config.proofs.ItemLists.{ItemsSoFar, Onward}
use Rattle.tla_config.proofs.items.items.Given as goal

abbrev pub invariant-loop-items : goal.invariant-loop-items
invariant-loop-items l = record {
  so_far : ItemsSoFar l.text l.tokens (map item_view l.items.items) l.from l.at;
  onward : Onward l.text l.tokens l.from l.at;
  order : l.from ≤ l.at;
}

abbrev pub decreases-loop-items : goal.decreases-loop-items
decreases-loop-items l = length l.tokens - l.at
