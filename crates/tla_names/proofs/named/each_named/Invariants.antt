use Rattle.std.proofs.Common.{◌≡◌, length}
use Rattle.tla_names.specs.Named.{each_misnamed}
use Rattle.tla_names.proofs.named.each_named.Given as goal

abbrev pub invariant-loop-left : goal.invariant-loop-left
invariant-loop-left l = each_misnamed l.definitions l.names ≡ each_misnamed l.definitions l.left

abbrev pub decreases-loop-left : goal.decreases-loop-left
decreases-loop-left l = length l.left
