use Rattle.std.proofs.Common.{◌≡◌, map}
use Rattle.tla_value.specs.TreeOf.{tree_of}
use Rattle.tla_value.specs.Choices.{counted_up}
use Rattle.tla_value.proofs.set.count_up.Given as goal

abbrev pub invariant-loop-offset : goal.invariant-loop-offset
invariant-loop-offset l = map tree_of l.numbers.items ≡ counted_up l.offset l.low
