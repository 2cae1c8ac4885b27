use Rattle.std.proofs.Common.{◌≡◌, ◌++◌, take, map}
use Rattle.tla_value.specs.TreeOf.{tree_of}
use Rattle.tla_operators.proofs.sequences.add_items.Given as goal

abbrev pub invariant-loop-value : goal.invariant-loop-value
invariant-loop-value l = map tree_of l.items.items ≡ map tree_of l.initial.items.items ++ map tree_of (take l.value-index l.values)
