use Rattle.std.proofs.Common.{◌≡◌, length, map}
use Rattle.tla_tree.specs.UnitsView.{declared}
use Rattle.tla_names.specs.Constants as spec
use Rattle.tla_names.proofs.constants.first_unvalued.Given as goal

abbrev pub invariant-loop-left : goal.invariant-loop-left
invariant-loop-left l = spec.first_unvalued l.replaced (map declared l.declarations) ≡ spec.first_unvalued l.replaced (map declared l.left)

abbrev pub decreases-loop-left : goal.decreases-loop-left
decreases-loop-left l = length l.left
