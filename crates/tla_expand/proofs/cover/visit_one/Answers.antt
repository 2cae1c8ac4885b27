use Rattle.std.proofs.Common.{◌++◌, ◌∷◌, []}
use Rattle.tla_tree.specs.View.{view}
use Rattle.tla_scopes.specs.Expand.{expand}
use Rattle.tla_scopes.specs.Primes.{with_primes}
use Rattle.tla_expand.specs.Private.Walks.{IsWalk, IsWalkTo, GoesOn}
use Rattle.tla_scopes.specs.Scopes.{scope_at}
use Rattle.tla_expand.proofs.Walking.{take_part, take_end}
use Rattle.tla_expand.proofs.Visits.{goes_by}
use Rattle.tla_scopes.specs.Listed.{listed}
use Rattle.std.proofs.Common.{◌+◌, ◌*◌, arith}
use Rattle.tla_scopes.specs.Costs.{cost, costs_at}
use Rattle.tla_expand.specs.Private.Walks.{weights}
use Rattle.tla_expand.proofs.Weights.{left_by, left_more}
use Rattle.tla_expand.proofs.cover.visit_one.Goals as goal

pub returns-in-Part-clause-goes : goal.returns-in-Part-clause-goes
returns-in-Part-clause-goes c =
    let walk = c.args.walk.now in
    let es = listed walk.entries in
    let new = c.visit_part.new.walk in
    let m = c.in-Part in
    goes_by c.visit_part.result (λ whole b. GoesOn whole (listed new.entries) new.remaining.items new.visited.keys new.found.keys b)
    (λ whole. IsWalkTo whole es walk.remaining.items walk.visited.keys walk.found.keys (with_primes m.primes (expand (view m.tree.now) (scope_at es m.scope) 0)))
    (λ whole. IsWalk whole es (walk.remaining.items ++ c.args.visit ∷ []) walk.visited.keys walk.found.keys)
    c.visit_part.ensures.goes
    (λ whole w. take_part whole es walk.remaining.items walk.visited.keys walk.found.keys m.tree m.scope m.primes (rw m.is at w))

pub returns-in_ok-mark_visited-in-End-clause-goes : goal.returns-in_ok-mark_visited-in-End-clause-goes
returns-in_ok-mark_visited-in-End-clause-goes c = λ whole w.
    let walk = c.args.walk.now in
    take_end whole (listed walk.entries) walk.remaining.items walk.visited.keys walk.found.keys c.in-End.entry c.mark_visited.new.visited.keys c.in_ok-mark_visited-in-End.ensures.ok (rw c.in-End.is at w)

pub returns-in-Part-clause-left : goal.returns-in-Part-clause-left
returns-in-Part-clause-left c =
    let walk = c.args.walk.now in
    let es = listed walk.entries in
    let new = c.visit_part.new.walk in
    let m = c.in-Part in
    left_by c.visit_part.result _ _
    (λ b f inside n k. let s = rw m.is at k in left_more (listed new.entries) new.remaining.items (weights es walk.remaining.items + 3 * cost (view m.tree.now) (costs_at es m.scope) + 1) n b (omega (arith, s)) (f inside)) c.visit_part.ensures.left

pub returns-in_ok-mark_visited-in-End-clause-left : goal.returns-in_ok-mark_visited-in-End-clause-left
returns-in_ok-mark_visited-in-End-clause-left c = λ inside n k. let s = rw c.in-End.is at k in omega (arith, s)
