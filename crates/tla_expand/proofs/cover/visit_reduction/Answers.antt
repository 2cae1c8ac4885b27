use Rattle.tla_scopes.specs.Reductions.{head_gives, reduction_gives}
use Rattle.tla_expand.specs.Private.Walks.{IsWalkTo, GoesOn}
use Rattle.tla_expand.proofs.Walking.{put_part}
use Rattle.tla_expand.proofs.Visits.{goes_by}
use Rattle.tla_scopes.specs.Listed.{listed}
use Rattle.std.proofs.Common.{◌∷◌, [], arith}
use Rattle.tla_expand.specs.declared.cover.Visit.TheVariants.{Part}
use Rattle.tla_expand.proofs.Weights.{weights_append, left_by}
use Rattle.tla_expand.proofs.cover.visit_reduction.Goals as goal

pub returns-in_ok-push-in-Goes-clause-goes : goal.returns-in_ok-push-in-Goes-clause-goes
returns-in_ok-push-in-Goes-clause-goes c = λ whole w.
    let walk = c.args.walk.now in
    let m = c.in-Goes in
    rw c.in_ok-push-in-Goes.ensures.ok (put_part whole (listed walk.entries) walk.remaining.items walk.visited.keys walk.found.keys m.tree m.scope m.primes (rw m.is at c.requires.within) (rw m.is at w))

pub returns-in-Ends-clause-goes : goal.returns-in-Ends-clause-goes
returns-in-Ends-clause-goes c =
    let walk = c.args.walk.now in
    let es = listed walk.entries in
    let new = c.visit_head.new.walk in
    goes_by c.visit_head.result (λ whole b. GoesOn whole (listed new.entries) new.remaining.items new.visited.keys new.found.keys b)
    (λ whole. IsWalkTo whole es walk.remaining.items walk.visited.keys walk.found.keys (head_gives es c.in-Ends.head 0))
    (λ whole. IsWalkTo whole es walk.remaining.items walk.visited.keys walk.found.keys (reduction_gives es c.args.reduction 0))
    c.visit_head.ensures.goes (λ whole w. rw c.in-Ends.is at w)

pub returns-in_ok-push-in-Goes-clause-left : goal.returns-in_ok-push-in-Goes-clause-left
returns-in_ok-push-in-Goes-clause-left c = λ n k.
    let walk = c.args.walk.now in
    let m = c.in-Goes in
    let s = rw m.is at k in
    rw c.in_ok-push-in-Goes.ensures.ok (omega (arith, s, weights_append (listed walk.entries) walk.remaining.items (Part m.tree m.scope m.primes ∷ [])))

pub returns-in-Ends-clause-left : goal.returns-in-Ends-clause-left
returns-in-Ends-clause-left c = left_by c.visit_head.result _ _ (λ b f n k. f n (rw c.in-Ends.is at k)) c.visit_head.ensures.left
