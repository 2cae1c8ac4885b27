use Rattle.std.proofs.Common.{◌≡◌, ◌≤◌, drop, length, map}
use Rattle.std.specs.List.{list_all}
use Rattle.tla_value.specs.TreeOf.{tree_of}
use Rattle.tla_value.specs.Sets.{is_member}
use Rattle.tla_value.proofs.Passes.{IsAhead}
use Rattle.tla_value.proofs.merge.all_stand_in.Given as goal

abbrev pub invariant-loop-item : goal.invariant-loop-item
invariant-loop-item l = record {
  within : l.at ≤ length l.others;
  ahead : IsAhead (map tree_of (drop l.item-index l.items)) (drop l.at (map tree_of l.others)) (map tree_of l.others);
  rest : list_all (λ t. is_member t (map tree_of l.others)) (map tree_of (drop l.item-index l.items)) ≡ list_all (λ t. is_member t (map tree_of l.others)) (map tree_of l.items);
}
