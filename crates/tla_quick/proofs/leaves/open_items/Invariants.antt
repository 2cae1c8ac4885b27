use Rattle.std.proofs.Common.{◌≡◌, ◌++◌, drop, map, Ok}
use Rattle.tla_value.specs.TreeOf.{tree_of}
use Rattle.tla_core.specs.declared.fault.Place.{Place}
use Rattle.tla_core.specs.Fault.{◌>>=◌}
use Rattle.tla_core.specs.Patterns.{opened_items}
use Rattle.tla_quick.specs.Private.Environment.{bound_in}
use Rattle.tla_quick.proofs.leaves.open_items.Given as goal

-- the rest, after the part that is done
abbrev pub invariant-loop-opening : goal.invariant-loop-opening
invariant-loop-opening l = (p : Place) →
    opened_items p l.openings (bound_in l.env)
    ≡ (opened_items p (drop l.opening-index l.openings) (bound_in l.env) >>= λ ys. Ok (map tree_of l.items.items ++ ys))
