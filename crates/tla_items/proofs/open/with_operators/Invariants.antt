use Rattle.std.proofs.Common.{◌≡◌, ◌++◌, length, map}
use Rattle.tla_items.specs.Open.{with_operators}
use Rattle.tla_names.specs.Mentions.{item_of}
use Rattle.tla_items.proofs.open.with_operators.Given as goal

abbrev pub invariant-loop-left : goal.invariant-loop-left
invariant-loop-left l = with_operators l.items ≡ l.names ++ with_operators (map item_of l.left)

abbrev pub decreases-loop-left : goal.decreases-loop-left
decreases-loop-left l = length l.left
