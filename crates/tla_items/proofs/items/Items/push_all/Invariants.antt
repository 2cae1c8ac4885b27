use Rattle.std.proofs.Common.{◌≡◌, ◌++◌, length, map}
use Rattle.tla_config.specs.View.{item_view}
use Rattle.tla_items.proofs.items.Items.push_all.Given as goal

abbrev pub invariant-loop-left : goal.invariant-loop-left
invariant-loop-left l = l.fn.self ++ map item_view l.items ≡ l.self ++ map item_view l.left

abbrev pub decreases-loop-left : goal.decreases-loop-left
decreases-loop-left l = length l.left
