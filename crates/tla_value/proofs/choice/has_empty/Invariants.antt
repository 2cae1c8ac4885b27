use Rattle.std.proofs.Common.{◌≡◌, ◌==◌, ◌||◌, drop, map}
use Rattle.std.specs.List.{AllByRecursion}
use Rattle.std.specs.List.Sorted.{IsStrictlySortedBy}
use Rattle.tla_value.specs.Order.{tree_cmp}
use Rattle.tla_value.specs.Private.Inner.{ways}
use Rattle.tla_value.proofs.choice.has_empty.Given as goal

abbrev pub invariant-loop-set : goal.invariant-loop-set
invariant-loop-set l = record {
  empty : (l.found || (ways (map (λ s. s.now) (drop l.set-index l.sets)) == 0)) ≡ (ways (map (λ s. s.now) l.sets) == 0);
  rising : AllByRecursion (IsStrictlySortedBy tree_cmp) (map (λ s. s.now) (drop l.set-index l.sets)) → AllByRecursion (IsStrictlySortedBy tree_cmp) (map (λ s. s.now) l.sets);
}
