use Rattle.std.proofs.Common.{◌≡◌, ◌++◌, length}
use Rattle.tla_defs.specs.Private.Formulas.{mentions}
use Rattle.tla_defs.proofs.builder.push_names.Given as goal

abbrev pub invariant-loop-left : goal.invariant-loop-left
invariant-loop-left l = mentions l.fn.all.items ++ l.names ≡ mentions l.all.items ++ l.left

abbrev pub decreases-loop-left : goal.decreases-loop-left
decreases-loop-left l = length l.left
