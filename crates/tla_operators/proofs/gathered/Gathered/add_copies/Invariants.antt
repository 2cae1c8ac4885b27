use Rattle.std.proofs.Common.{map, take}
use Rattle.tla_value.specs.TreeOf.{tree_of}
use Rattle.tla_operators.specs.Gathered.{Adds}
use Rattle.tla_operators.proofs.gathered.Gathered.add_copies.Given as goal

abbrev pub invariant-loop-value : goal.invariant-loop-value
invariant-loop-value l = Adds (map tree_of (take l.value-index l.values)) l.initial.self l.self
