use Rattle.std.proofs.Common.{◌≡◌, ◌++◌, drop, map, Ok}
use Rattle.tla_value.specs.TreeOf.{tree_of}
use Rattle.tla_core.specs.Fault.{◌>>=◌}
use Rattle.tla_core.specs.Patterns.{opened_items}
use Rattle.tla_eval.specs.Private.Environment.{bound_of}
use Rattle.tla_eval.proofs.patterns.open_items.Given as goal

-- the rest, after the part that is done
abbrev pub invariant-loop-opening : goal.invariant-loop-opening
invariant-loop-opening l =
    opened_items l.place l.openings (bound_of l.frame)
    ≡ (opened_items l.place (drop l.opening-index l.openings) (bound_of l.frame) >>= λ ys. Ok (map tree_of l.items.items ++ ys))
