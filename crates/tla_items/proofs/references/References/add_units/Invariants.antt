use Rattle.std.proofs.Common.{◌≡◌, ◌++◌, [], length, map}
use Rattle.tla_tree.specs.UnitsView.{unit_view}
use Rattle.tla_config.specs.Names.{Name}
use Rattle.tla_items.specs.References.{next_names, units_references}
use Rattle.tla_items.proofs.references.References.add_units.Given as goal

abbrev pub invariant-loop-left : goal.invariant-loop-left
invariant-loop-left l = (x : Name) → next_names (l.self ++ units_references l.scope (map unit_view l.left)) x ≡ next_names (l.fn.self ++ units_references [] (map unit_view l.units)) x

abbrev pub decreases-loop-left : goal.decreases-loop-left
decreases-loop-left l = length l.left
