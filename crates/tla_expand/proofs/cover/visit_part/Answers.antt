use Rattle.std.proofs.Common.{◌+◌, ◌*◌, arith}
use Rattle.tla_tree.specs.View.{view}
use Rattle.tla_scopes.specs.Costs.{cost, costs_at}
use Rattle.tla_scopes.specs.Listed.{listed}
use Rattle.tla_expand.specs.Private.Walks.{weights}
use Rattle.tla_expand.proofs.Weights.{left_by, left_more}
use Rattle.tla_expand.proofs.cover.visit_part.Goals as goal

pub returns-in-None-clause-left : goal.returns-in-None-clause-left
returns-in-None-clause-left c =
    let walk = c.args.walk.now in
    let es = listed walk.entries in
    let new = c.reduce_part.new.walk in
    let n = cost (view c.args.tree.now) (costs_at es c.args.scope) in
    left_by c.reduce_part.result _ _
    (λ b f inside. left_more (listed new.entries) new.remaining.items (weights es walk.remaining.items + 3 * n) (weights es walk.remaining.items + 3 * n + 1) b (omega arith) (f inside)) c.reduce_part.ensures.left
