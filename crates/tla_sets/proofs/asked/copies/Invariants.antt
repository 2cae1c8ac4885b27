use Rattle.std.proofs.Common.{◌≡◌, take, map}
use Rattle.tla_value.specs.TreeOf.{tree_of}
use Rattle.tla_operators.specs.Evaluated.{tree_of_evaluated}
use Rattle.tla_sets.proofs.asked.copies.Given as goal

abbrev pub invariant-loop-value : goal.invariant-loop-value
invariant-loop-value l = map tree_of l.copies.items ≡ map tree_of_evaluated (take l.value-index l.values)
