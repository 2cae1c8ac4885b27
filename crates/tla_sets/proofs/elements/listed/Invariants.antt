use Rattle.std.proofs.Common.{◌≡◌, ◌++◌, drop, map}
use Rattle.tla_value.specs.TreeOf.{tree_of}
use Rattle.tla_value.specs.Choices.{range_of}
use Rattle.tla_sets.proofs.elements.listed.Given as goal

-- the rest, after the part that is done
abbrev pub invariant-loop-place : goal.invariant-loop-place
invariant-loop-place l = range_of l.span.low l.span.high ≡ map tree_of l.numbers.items ++ drop l.place (range_of l.span.low l.span.high)
