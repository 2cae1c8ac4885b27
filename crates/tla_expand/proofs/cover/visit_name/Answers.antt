use Rattle.tla_tree.specs.View.{view}
use Rattle.tla_scopes.specs.Expand.{expand}
use Rattle.tla_scopes.specs.Primes.{with_primes}
use Rattle.tla_scopes.specs.Scopes.{scope_at}
use Rattle.tla_expand.specs.declared.cover.PrimedEntry.{PrimedEntry}
use Rattle.tla_expand.specs.Private.Walks.{IsWalkTo, GoesOn}
use Rattle.tla_expand.proofs.Walking.{put_visited, put_end}
use Rattle.tla_expand.proofs.Visits.{name_visited, goes_by}
use Rattle.tla_scopes.specs.Listed.{listed}
use Rattle.std.proofs.Common.{◌+◌, ◌*◌, ◌++◌, ◌∷◌, [], arith}
use Rattle.tla_scopes.specs.Costs.{cost, costs_at}
use Rattle.tla_expand.specs.declared.cover.Visit.TheVariants.{End}
use Rattle.tla_expand.specs.Private.Walks.{IsInside, weights}
use Rattle.tla_expand.proofs.Visits.{each_append}
use Rattle.tla_expand.proofs.Weights.{left_by, left_more, weights_append}
use Rattle.tla_expand.proofs.cover.visit_name.Goals as goal

pub returns-then-is_visited-clause-goes : goal.returns-then-is_visited-clause-goes
returns-then-is_visited-clause-goes c = λ whole w.
    let walk = c.args.walk.now in
    let g : PrimedEntry = record { entry = c.args.entry; primes = c.args.primes } in
    put_visited whole (listed walk.entries) walk.remaining.items walk.visited.keys walk.found.keys (view c.args.tree.now) c.args.scope g c.requires.named (c.is_visited.ensures c.if-is_visited.true) w

pub returns-clause-goes : goal.returns-clause-goes
returns-clause-goes c =
    let walk = c.args.walk.now in
    let es = listed walk.entries in
    let g : PrimedEntry = record { entry = c.args.entry; primes = c.args.primes } in
    let o = with_primes c.args.primes (expand (view c.args.tree.now) (scope_at es c.args.scope) 0) in
    let new = c.reduce_part.new.walk in
    goes_by c.reduce_part.result (λ whole b. GoesOn whole (listed new.entries) new.remaining.items new.visited.keys new.found.keys b)
    (λ whole. IsWalkTo whole es c.push.new.items.items walk.visited.keys walk.found.keys o)
    (λ whole. IsWalkTo whole es walk.remaining.items walk.visited.keys walk.found.keys o)
    c.reduce_part.ensures.goes
    (λ whole w. rw c.in_ok-push.ensures.ok (put_end whole es walk.remaining.items walk.visited.keys walk.found.keys o w g c.requires.named.0 (λ m. name_visited m es (view c.args.tree.now) c.args.scope g c.requires.named)))

pub returns-then-is_visited-clause-left : goal.returns-then-is_visited-clause-left
returns-then-is_visited-clause-left c = λ inside. omega arith

pub returns-clause-left : goal.returns-clause-left
returns-clause-left c =
    let walk = c.args.walk.now in
    let es = listed walk.entries in
    let g : PrimedEntry = record { entry = c.args.entry; primes = c.args.primes } in
    let new = c.reduce_part.new.walk in
    let n = cost (view c.args.tree.now) (costs_at es c.args.scope) in
    let q = weights_append es walk.remaining.items (End g ∷ []) in
    left_by c.reduce_part.result _ _
    (λ b f inside. left_more (listed new.entries) new.remaining.items (weights es (walk.remaining.items ++ End g ∷ []) + 3 * n) (weights es walk.remaining.items + 3 * n + 1) b (omega (arith, q))
    (rw c.in_ok-push.ensures.ok at (f (rw c.in_ok-push.ensures.ok (each_append (IsInside es) walk.remaining.items (End g ∷ []) inside (c.requires.named.0, tt)))))) c.reduce_part.ensures.left
