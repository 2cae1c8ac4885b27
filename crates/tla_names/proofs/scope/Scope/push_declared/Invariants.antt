use Rattle.std.proofs.Common.{◌≡◌, ◌++◌, length, map}
use Rattle.tla_tree.specs.UnitsView.{declared}
use Rattle.tla_names.specs.Constants.{constants}
use Rattle.tla_names.proofs.scope.Scope.push_declared.Given as goal

abbrev pub invariant-loop-left : goal.invariant-loop-left
invariant-loop-left l = l.fn.self ++ constants (map declared l.declarations) ≡ l.self ++ constants (map declared l.left)

abbrev pub decreases-loop-left : goal.decreases-loop-left
decreases-loop-left l = length l.left
