use Rattle.std.proofs.Common.{◌≡◌, ◌+◌, drop, map}
use Rattle.tla_value.specs.TreeOf.{tree_of}
use Rattle.tla_value.specs.Private.Inner.{counts_from}
use Rattle.tla_value.proofs.fun.are_from_one.Given as goal

abbrev pub invariant-loop-i : goal.invariant-loop-i
invariant-loop-i l = counts_from (l.i + 1) (map tree_of (drop l.i l.items)) ≡ counts_from 1 (map tree_of l.items)
