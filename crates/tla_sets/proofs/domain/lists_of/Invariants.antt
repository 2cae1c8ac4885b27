use Rattle.std.proofs.Common.{◌≡◌, ◌++◌, drop, map, Ok, Bor, List}
use Rattle.tla_value.specs.TreeOf.{tree_of}
use Rattle.tla_value.specs.declared.value.Value.{Value}
use Rattle.tla_operators.specs.Evaluated.{tree_of_evaluated}
use Rattle.tla_core.specs.Fault.{◌>>=◌}
use Rattle.tla_core.specs.Kinds.{as_set}
use Rattle.tla_core.specs.Lists.{each}
use Rattle.tla_sets.proofs.domain.lists_of.Given as goal

-- the rest, after the part that is done
abbrev pub invariant-loop-set : goal.invariant-loop-set
invariant-loop-set l =
    each (as_set l.place) (map tree_of_evaluated l.sets)
    ≡ (each (as_set l.place) (map tree_of_evaluated (drop l.set-index l.sets)) >>= λ ys. Ok (map (λ (r : Bor (List Value)). map tree_of r.now) l.lists.items ++ ys))
