use Rattle.std.proofs.Common.{◌≡◌, take, map}
use Rattle.tla_value.specs.TreeOf.{tree_of}
use Rattle.tla_value.specs.Choices.{subsets_of}
use Rattle.tla_value.proofs.choice.subsets.Given as goal

abbrev pub invariant-loop-number : goal.invariant-loop-number
invariant-loop-number l = map tree_of l.subsets.items ≡ take l.number (subsets_of (map tree_of l.items))
