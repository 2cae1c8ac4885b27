use Rattle.std.proofs.Common.{false, sym}
use Rattle.tla_value.specs.Tree.{truth}
use Rattle.tla_value.specs.TreeOf.{tree_of}
use Rattle.tla_quick.specs.Private.Environment.{bound_in, present_in, next_in}
use Rattle.tla_quick.proofs.Used.{found_or}
use Rattle.tla_quick.proofs.leaves.bound_value.Goals as goal

pub returns-in-Some : goal.returns-in-Some
returns-in-Some c =
    let env = c.args.env.now in
    sym (found_or (bound_in env) c.args.index (tree_of c.in-Some.value.now) (truth false) (c.in-Some.ensures (present_in env) (next_in env) env.knows))
