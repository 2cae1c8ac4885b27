use Rattle.std.proofs.Common.{◌≡◌, map, take}
use Rattle.tla_value.specs.TreeOf.{tree_of}
use Rattle.tla_eval.specs.Private.Wheels.{heads, wheel_trees}
use Rattle.tla_eval.proofs.odometer.firsts.Given as goal

abbrev pub invariant-loop-wheel : goal.invariant-loop-wheel
invariant-loop-wheel l = map tree_of l.values.items ≡ heads (wheel_trees (take l.wheel-index l.wheels))
