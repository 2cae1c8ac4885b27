use Rattle.std.proofs.Common.{◌≡◌, None}
use Rattle.tla_tree.specs.View.{view}
use Rattle.tla_scopes.specs.Expand.{expand}
use Rattle.tla_scopes.specs.Primes.{with_primes}
use Rattle.tla_scopes.specs.Reductions.{reduction_gives}
use Rattle.tla_expand.specs.Private.Walks.{IsWalkTo, GoesOn}
use Rattle.tla_scopes.specs.Scopes.{scope_at}
use Rattle.tla_expand.proofs.Walking.{walk_same, put_nothing}
use Rattle.tla_expand.proofs.Visits.{goes_by, walk_grown}
use Rattle.tla_scopes.specs.Listed.{listed}
use Rattle.tla_scopes.specs.Costs.{cost, costs_at}
use Rattle.tla_expand.proofs.Weights.{left_by, weights_grown}
use Rattle.tla_expand.proofs.cover.reduce_part.Goals as goal

pub returns-in-Ok-clause-goes : goal.returns-in-Ok-clause-goes
returns-in-Ok-clause-goes c =
    let walk = c.args.walk.now in
    let es = listed walk.entries in
    let mid = listed c.next_reduction.new.entries in
    let new = c.visit_reduction.new.walk in
    let e = c.in-Ok.ensures in
    let o = with_primes c.args.primes (expand (view c.args.tree.now) (scope_at es c.args.scope) 0) in
    goes_by c.visit_reduction.result (λ whole b. GoesOn whole (listed new.entries) new.remaining.items new.visited.keys new.found.keys b)
    (λ whole. IsWalkTo whole mid walk.remaining.items walk.visited.keys walk.found.keys (reduction_gives mid c.in-Ok.reduction 0))
    (λ whole. IsWalkTo whole es walk.remaining.items walk.visited.keys walk.found.keys o)
    c.visit_reduction.ensures.goes
    (λ whole w.
    walk_same whole mid walk.remaining.items walk.visited.keys walk.found.keys o (reduction_gives mid c.in-Ok.reduction 0) (e.same 0)
    (walk_grown es mid e.extends w.linked whole o walk.remaining.items walk.visited.keys walk.found.keys e.linked w))

pub returns-in-Err-NoExpansion-clause-goes : goal.returns-in-Err-NoExpansion-clause-goes
returns-in-Err-NoExpansion-clause-goes c = λ whole w.
    let walk = c.args.walk.now in
    let o = expand (view c.args.tree.now) (scope_at (listed walk.entries) c.args.scope) 0 in
    let f = rw c.in-Err-NoExpansion.field-0-is at c.in-Err-NoExpansion.ensures.err in
    let h : o ≡ None = f 0 in
    put_nothing whole (listed walk.entries) walk.remaining.items walk.visited.keys walk.found.keys c.args.primes o h w

pub returns-in-Ok-clause-left : goal.returns-in-Ok-clause-left
returns-in-Ok-clause-left c =
    let walk = c.args.walk.now in
    let es = listed walk.entries in
    let new = c.visit_reduction.new.walk in
    let e = c.in-Ok.ensures in
    let n = cost (view c.args.tree.now) (costs_at es c.args.scope) in
    left_by c.visit_reduction.result _ _
    (λ b f inside. rw (weights_grown es (listed c.next_reduction.new.entries) walk.remaining.items e.extends inside) at (f n e.shorter)) c.visit_reduction.ensures.left
