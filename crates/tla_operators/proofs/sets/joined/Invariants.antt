use Rattle.std.proofs.Common.{◌≡◌, drop, map, List}
use Rattle.tla_value.specs.Tree.{Tree}
use Rattle.tla_value.specs.TreeOf.{tree_of}
use Rattle.tla_core.specs.Operators.{joined_sets}
use Rattle.tla_operators.specs.Gathered.{then_more, IsGathered}
use Rattle.tla_operators.proofs.sets.joined.Given as goal

-- the rest, after the part that is done
abbrev pub invariant-loop-set : goal.invariant-loop-set
invariant-loop-set l =
    (kept : List Tree) × IsGathered kept l.gathered ×
    (joined_sets l.place (map tree_of l.sets) ≡ then_more kept (joined_sets l.place (map tree_of (drop l.set-index l.sets))))
