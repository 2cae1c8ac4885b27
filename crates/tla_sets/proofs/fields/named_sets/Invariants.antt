use Rattle.std.proofs.Common.{◌≡◌, ◌++◌, drop, map, Ok}
use Rattle.tla_operators.specs.Evaluated.{tree_of_evaluated}
use Rattle.tla_core.specs.ExprOf.{fields_of_cores}
use Rattle.tla_core.specs.Fault.{◌>>=◌}
use Rattle.tla_sets.specs.Fields.{named_sets}
use Rattle.tla_sets.proofs.fields.named_sets.Given as goal

-- the rest, after the part that is done
abbrev pub invariant-loop-i : goal.invariant-loop-i
invariant-loop-i l =
    named_sets l.place (fields_of_cores l.fields) (map tree_of_evaluated l.values)
    ≡ (named_sets l.place (fields_of_cores (drop l.i l.fields)) (map tree_of_evaluated (drop l.i l.values)) >>= λ ys. Ok (l.sets.items ++ ys))
