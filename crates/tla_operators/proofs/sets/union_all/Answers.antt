use Rattle.std.proofs.Common.{map, sym, subst}
use Rattle.tla_value.specs.Tree.{Tree}
use Rattle.tla_value.specs.TreeOf.{tree_of}
use Rattle.tla_core.specs.Fault.{Outcome}
use Rattle.tla_core.specs.Operators.{joined_sets}
use Rattle.tla_operators.specs.Gives.{Gives}
use Rattle.tla_operators.proofs.Different.{union_is}
use Rattle.tla_operators.proofs.sets.union_all.Goals as goal

pub returns : goal.returns
returns c =
    let ts = map tree_of c.in_ok-sets.sets.now in
    subst (λ (o : Outcome Tree). Gives c.into_set.result o) (sym (union_is c.args.place.now (tree_of c.args.sets.now) ts c.in_ok-sets.ensures)) (c.into_set.ensures (joined_sets c.args.place.now ts) c.in_ok-joined.ensures)
