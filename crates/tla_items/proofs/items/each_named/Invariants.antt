use Rattle.std.proofs.Common.{◌≡◌, [], length, map}
use Rattle.tla_items.specs.Items.{items_misused}
use Rattle.tla_names.specs.Mentions.{item_of}
use Rattle.tla_items.proofs.items.each_named.Given as goal

abbrev pub invariant-loop-left : goal.invariant-loop-left
invariant-loop-left l = items_misused l.values l.operators [] l.items ≡ items_misused l.values l.operators l.before (map item_of l.left)

abbrev pub decreases-loop-left : goal.decreases-loop-left
decreases-loop-left l = length l.left
