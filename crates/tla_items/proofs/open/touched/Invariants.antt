use Rattle.std.proofs.Common.{◌≡◌, length, map}
use Rattle.tla_tree.specs.UnitsView.{unit_view}
use Rattle.tla_items.specs.Open.{touched}
use Rattle.tla_items.proofs.open.touched.Given as goal

abbrev pub invariant-loop-left : goal.invariant-loop-left
invariant-loop-left l = touched l.initial.names (map unit_view l.units) ≡ touched l.names (map unit_view l.left)

abbrev pub decreases-loop-left : goal.decreases-loop-left
decreases-loop-left l = length l.left
