use Rattle.std.proofs.Common.{◌≡◌, ◌≤◌, ◌-◌, drop, length, map}
use Rattle.std.specs.declared.cmp.Ordering.TheVariants.{Less}
use Rattle.tla_value.specs.Tree.{Tree}
use Rattle.tla_value.specs.TreeOf.{tree_of}
use Rattle.tla_value.specs.Order.{tree_cmp}
use Rattle.tla_value.specs.Sets.{is_member}
use Rattle.tla_value.proofs.merge.reach.Given as goal

-- the skipped items are below the value
abbrev pub invariant-loop-at : goal.invariant-loop-at
invariant-loop-at l = record {
  within : l.at ≤ length l.items;
  found : is_member (tree_of l.value) (drop l.at (map tree_of l.items)) ≡ is_member (tree_of l.value) (drop l.from (map tree_of l.items));
  kept : (q : Tree) → tree_cmp (tree_of l.value) q ≡ Less → is_member q (drop l.at (map tree_of l.items)) ≡ is_member q (drop l.from (map tree_of l.items));
}

abbrev pub decreases-loop-at : goal.decreases-loop-at
decreases-loop-at l = length l.items - l.at
