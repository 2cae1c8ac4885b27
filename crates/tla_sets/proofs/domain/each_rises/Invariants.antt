use Rattle.std.proofs.Common.{drop}
use Rattle.std.specs.List.{AllByRecursion}
use Rattle.std.specs.List.Sorted.{IsStrictlySortedBy}
use Rattle.tla_value.specs.Order.{tree_cmp}
use Rattle.tla_sets.proofs.domain.each_rises.Given as goal

abbrev pub invariant-loop-set : goal.invariant-loop-set
invariant-loop-set l = AllByRecursion (IsStrictlySortedBy tree_cmp) (drop l.set-index l.sets) → AllByRecursion (IsStrictlySortedBy tree_cmp) l.sets
