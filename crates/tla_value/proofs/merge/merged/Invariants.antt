use Rattle.std.proofs.Common.{◌≤◌, ◌+◌, ◌-◌, ◌++◌, drop, length, map}
use Rattle.tla_value.specs.TreeOf.{tree_of}
use Rattle.tla_value.proofs.Merges.{IsMerge}
use Rattle.tla_value.proofs.merge.merged.Given as goal

-- the merged part is below the rest, and together they have the members of both
abbrev pub invariant-loop-i : goal.invariant-loop-i
invariant-loop-i l = record {
  left : l.i ≤ length l.left;
  right : l.j ≤ length l.right;
  merge : IsMerge (map tree_of l.merged.items) (drop l.i (map tree_of l.left)) (drop l.j (map tree_of l.right)) (map tree_of l.left ++ map tree_of l.right);
}

abbrev pub decreases-loop-i : goal.decreases-loop-i
decreases-loop-i l = (length l.left - l.i) + (length l.right - l.j)
