use Rattle.std.proofs.Common.{◌≡◌, ◌≤◌, drop, take, length, map}
use Rattle.tla_value.specs.TreeOf.{tree_of}
use Rattle.tla_value.specs.Private.Inner.{chosen_of}
use Rattle.tla_value.proofs.Passes.{IsAhead}
use Rattle.tla_value.proofs.merge.chosen.Given as goal

abbrev pub invariant-loop-item : goal.invariant-loop-item
invariant-loop-item l = record {
  within : l.at ≤ length l.others;
  ahead : IsAhead (map tree_of (drop l.item-index l.items)) (drop l.at (map tree_of l.others)) (map tree_of l.others);
  kept : map tree_of l.kept.items ≡ chosen_of l.shared (map tree_of l.others) (map tree_of (take l.item-index l.items));
}
