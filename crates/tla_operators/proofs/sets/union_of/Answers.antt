use Rattle.std.proofs.Common.{◌++◌}
use Rattle.tla_value.specs.Sets.{set_of}
use Rattle.tla_operators.proofs.Known.{on_sets_known}
use Rattle.tla_operators.proofs.sets.union_of.Goals as goal

pub returns-in-Set-Set : goal.returns-in-Set-Set
returns-in-Set-Set c =
    let s = c.in-Set-Set in
    rw (on_sets_known c.args.place.now (λ xs ys. xs ++ ys) c.args.left.now c.args.right.now s.left s.right s.is-0 s.is-1) (c.made_set.ensures (set_of (s.left ++ s.right)) c.union.ensures)
