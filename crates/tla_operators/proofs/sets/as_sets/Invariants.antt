use Rattle.std.proofs.Common.{◌≡◌, ◌++◌, drop, map, Ok}
use Rattle.tla_operators.specs.Evaluated.{tree_of_evaluated}
use Rattle.tla_core.specs.Fault.{◌>>=◌}
use Rattle.tla_core.specs.Kinds.{as_set}
use Rattle.tla_core.specs.Lists.{each}
use Rattle.tla_operators.proofs.sets.as_sets.Given as goal

-- the rest, after the part that is done
abbrev pub invariant-loop-value : goal.invariant-loop-value
invariant-loop-value l =
    each (as_set l.place) (map tree_of_evaluated l.values)
    ≡ (each (as_set l.place) (map tree_of_evaluated (drop l.value-index l.values)) >>= λ ys. Ok (l.sets.items ++ ys))
