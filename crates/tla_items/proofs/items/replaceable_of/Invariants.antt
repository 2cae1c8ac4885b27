use Rattle.std.proofs.Common.{◌≡◌, ◌++◌, length, map}
use Rattle.tla_tree.specs.UnitsView.{unit_view}
use Rattle.tla_items.specs.Items as spec
use Rattle.tla_items.proofs.items.replaceable_of.Given as goal

abbrev pub invariant-loop-left : goal.invariant-loop-left
invariant-loop-left l = spec.replaceable_of (map unit_view l.units) ≡ l.scope ++ spec.replaceable_of (map unit_view l.left)

abbrev pub decreases-loop-left : goal.decreases-loop-left
decreases-loop-left l = length l.left
