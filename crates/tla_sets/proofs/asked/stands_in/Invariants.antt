use Rattle.std.proofs.Common.{◌≡◌, drop, map}
use Rattle.tla_value.specs.TreeOf.{tree_of}
use Rattle.tla_value.specs.Sets.{is_member}
use Rattle.tla_operators.specs.Evaluated.{tree_of_evaluated}
use Rattle.tla_sets.proofs.asked.stands_in.Given as goal

-- the rest decides
abbrev pub invariant-loop-other : goal.invariant-loop-other
invariant-loop-other l = is_member (tree_of l.value) (map tree_of_evaluated l.values) ≡ is_member (tree_of l.value) (map tree_of_evaluated (drop l.other-index l.values))
