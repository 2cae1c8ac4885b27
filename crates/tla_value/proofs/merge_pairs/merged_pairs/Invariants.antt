use Rattle.std.proofs.Common.{◌≤◌, ◌+◌, ◌-◌, ◌++◌, drop, length, map}
use Rattle.tla_value.specs.TreeOf.{pair_of}
use Rattle.tla_value.proofs.PairMerges.{IsPairMerge}
use Rattle.tla_value.proofs.merge_pairs.merged_pairs.Given as goal

-- the merged part is below the rest, and together they map each argument to its value
abbrev pub invariant-loop-i : goal.invariant-loop-i
invariant-loop-i l = record {
  left : l.i ≤ length l.left;
  right : l.j ≤ length l.right;
  merge : IsPairMerge (map pair_of l.merged.items) (drop l.i (map pair_of l.left)) (drop l.j (map pair_of l.right)) (map pair_of l.left ++ map pair_of l.right);
}

abbrev pub decreases-loop-i : goal.decreases-loop-i
decreases-loop-i l = (length l.left - l.i) + (length l.right - l.j)
