use Rattle.std.proofs.Common.{◌≡◌, ◌++◌, length, map}
use Rattle.tla_items.specs.Items.{replaced_names}
use Rattle.tla_names.specs.Mentions.{item_of}
use Rattle.tla_items.proofs.items.Items.names.Given as goal

abbrev pub invariant-loop-left : goal.invariant-loop-left
invariant-loop-left l = replaced_names l.self ≡ l.names ++ replaced_names (map item_of l.left)

abbrev pub decreases-loop-left : goal.decreases-loop-left
decreases-loop-left l = length l.left
