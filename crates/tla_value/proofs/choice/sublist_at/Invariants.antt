use Rattle.std.proofs.Common.{◌≡◌, ◌++◌, ◌^◌, drop, length, map}
use Rattle.tla_value.specs.TreeOf.{tree_of}
use Rattle.tla_value.specs.Private.Inner.{sublist_of}
use Rattle.tla_value.proofs.choice.sublist_at.Given as goal

abbrev pub invariant-loop-item : goal.invariant-loop-item
invariant-loop-item l = record {
  half : l.half ≡ 2 ^ length (drop l.item-index l.items);
  kept : map tree_of l.kept.items ++ sublist_of (drop l.item-index (map tree_of l.items)) l.left ≡ sublist_of (map tree_of l.items) l.number;
}
