use Rattle.std.proofs.Common.{◌≡◌, ◌++◌, length, map}
use Rattle.tla_tree.specs.UnitsView.{declared}
use Rattle.tla_names.specs.Constants.{constants, misused_constants}
use Rattle.tla_names.proofs.constants.declare.Given as goal

abbrev pub invariant-loop-left : goal.invariant-loop-left
invariant-loop-left l = record {
  more : l.fn.scope ++ constants (map declared l.declarations) ≡ l.scope ++ constants (map declared l.left);
  same : misused_constants l.fn.scope (map declared l.declarations) ≡ misused_constants l.scope (map declared l.left);
}

abbrev pub decreases-loop-left : goal.decreases-loop-left
decreases-loop-left l = length l.left
