use Rattle.std.proofs.Common.{◌++◌, sym, subst}
use Rattle.tla_value.specs.Tree.{Tree}
use Rattle.tla_value.specs.Funs.{fun_of}
use Rattle.tla_core.specs.Fault.{Outcome}
use Rattle.tla_operators.specs.Gives.{Gives}
use Rattle.tla_operators.proofs.Known.{override_known}
use Rattle.tla_operators.proofs.functions.override_with.Goals as goal

pub returns-in-Fun-Fun : goal.returns-in-Fun-Fun
returns-in-Fun-Fun c =
    let f = c.in-Fun-Fun in
    subst (λ (o : Outcome Tree). Gives c.made_fun.result o) (sym (override_known c.args.place.now c.args.left.now c.args.right.now f.left f.right f.is-0 f.is-1)) (c.made_fun.ensures (fun_of (f.left ++ f.right)) c.override_with.ensures)
