use Rattle.std.proofs.Common.{◌≡◌, ◌++◌, length, map}
use Rattle.tla_tree.specs.UnitsView.{unit_view}
use Rattle.tla_names.specs.Misuses.{misuse, misuse_from, variables_of}
use Rattle.tla_names.proofs.units.variables.Given as goal

abbrev pub invariant-loop-left : goal.invariant-loop-left
invariant-loop-left l = record {
  same : misuse (map unit_view l.units) ≡ misuse_from l.brought.modules l.brought.scope (map unit_view l.left);
  declared : variables_of (map unit_view l.units) ≡ l.brought.variables ++ variables_of (map unit_view l.left);
}

abbrev pub decreases-loop-left : goal.decreases-loop-left
decreases-loop-left l = length l.left
