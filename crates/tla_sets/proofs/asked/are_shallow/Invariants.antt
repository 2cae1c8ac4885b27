use Rattle.std.proofs.Common.{◌<◌, drop, map}
use Rattle.tla_value.specs.Tree.{trees, deepest}
use Rattle.tla_operators.specs.Evaluated.{tree_of_evaluated}
use Rattle.tla_sets.proofs.asked.are_shallow.Given as goal

-- the rest decides
abbrev pub invariant-loop-value : goal.invariant-loop-value
invariant-loop-value l = deepest (trees (map tree_of_evaluated (drop l.value-index l.values))) < 64 → deepest (trees (map tree_of_evaluated l.values)) < 64
