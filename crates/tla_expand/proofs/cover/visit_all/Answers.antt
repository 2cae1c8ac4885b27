use Rattle.std.proofs.Common.{◌≡◌, ◌++◌, ◌∷◌, [], List, length, vec_len, rules, ap, ◌∙◌}
use Rattle.tla_tree.specs.View.{view}
use Rattle.tla_expand.specs.declared.cover.Visit.{Visit}
use Rattle.tla_expand.specs.declared.cover.Visit.TheVariants.{Part}
use Rattle.tla_scopes.specs.declared.primes.Primes.TheVariants.{Never}
use Rattle.tla_scopes.specs.Expand.{expand}
use Rattle.tla_scopes.specs.Scopes.{scope_at}
use Rattle.tla_expand.specs.Private.Walks.{IsInside}
use Rattle.tla_expand.proofs.Walking.{walk_starts, walk_over, covered, uncovered, no_cover}
use Rattle.tla_expand.proofs.Visits.{each_back}
use Rattle.tla_scopes.specs.Listed.{listed}
use Rattle.tla_expand.proofs.Visits.{each_front}
use Rattle.tla_expand.proofs.Weights.{popped}
use Rattle.tla_expand.proofs.cover.visit_all.Goals as goal

pub loop-visit-init : goal.loop-visit-init
loop-visit-init c = record {
  goes = walk_starts (listed c.args.walk.now.entries) c.args.tree c.args.scope c.push.new.items.items c.args.walk.now.visited.keys c.args.walk.now.found.keys c.requires.linked c.requires.within
      (c.in_ok-push.ensures.ok ∙ ap (λ (ls : List Visit). ls ++ Part c.args.tree c.args.scope Never ∷ []) c.requires.remaining) c.requires.visited c.requires.found;
}

pub loop-visit-preserved : goal.loop-visit-preserved
loop-visit-preserved c =
    let whole = expand (view c.args.tree.now) (scope_at (listed c.args.walk.now.entries) c.args.scope) 0 in
    record {
      goes = rw c.if-not-goes.false at (c.in_ok-goes.ensures.goes whole (rw c.in-Some.ensures.items at c.loop-visit.invariant.goes));
    }

pub returns-then-not-goes-clause-no : goal.returns-then-not-goes-clause-no
returns-then-not-goes-clause-no c = λ q.
    let whole = expand (view c.args.tree.now) (scope_at (listed c.args.walk.now.entries) c.args.scope) 0 in
    no_cover whole c.args.variables (rw c.if-not-goes.true at (c.in_ok-goes.ensures.goes whole (rw c.in-Some.ensures.items at c.loop-visit.invariant.goes)))

pub returns-in_default-clause-yes : goal.returns-in_default-clause-yes
returns-in_default-clause-yes c = λ q.
    let walk = c.loop-visit.walk in
    let n : length walk.remaining.items ≡ vec_len walk.remaining = search rules in
    let whole = expand (view c.args.tree.now) (scope_at (listed c.args.walk.now.entries) c.args.scope) 0 in
    covered whole (listed walk.entries) walk.visited.keys walk.found.keys c.args.variables
    (walk_over whole (listed walk.entries) walk.remaining.items walk.visited.keys walk.found.keys (n ∙ (rw c.in_default.is at c.pop.ensures.cases).0) c.loop-visit.invariant.goes) (c.has_each.ensures.yes q)

pub returns-in_default-clause-no : goal.returns-in_default-clause-no
returns-in_default-clause-no c = λ q.
    let walk = c.loop-visit.walk in
    let n : length walk.remaining.items ≡ vec_len walk.remaining = search rules in
    let whole = expand (view c.args.tree.now) (scope_at (listed c.args.walk.now.entries) c.args.scope) 0 in
    uncovered whole (listed walk.entries) walk.visited.keys walk.found.keys c.args.variables
    (walk_over whole (listed walk.entries) walk.remaining.items walk.visited.keys walk.found.keys (n ∙ (rw c.in_default.is at c.pop.ensures.cases).0) c.loop-visit.invariant.goes) (c.has_each.ensures.no q)

pub visit_one-requires-clause-linked : goal.visit_one-requires-clause-linked
visit_one-requires-clause-linked c = c.loop-visit.invariant.goes.linked

pub visit_one-requires-clause-inside : goal.visit_one-requires-clause-inside
visit_one-requires-clause-inside c =
    let w = rw c.in-Some.ensures.items at c.loop-visit.invariant.goes in
    (each_back (IsInside (listed c.loop-visit.walk.entries)) c.pop.new.self.items (c.in-Some.visit ∷ []) w.inside).0

pub loop-visit-smaller : goal.loop-visit-smaller
loop-visit-smaller c =
    let es = listed c.loop-visit.walk.entries in
    let rest = c.pop.new.self.items in
    let w = rw c.in-Some.ensures.items at c.loop-visit.invariant.goes in
    let inside = each_front (IsInside es) rest (c.in-Some.visit ∷ []) w.inside in
    popped es (listed c.visit_one.new.walk.entries) c.visit_one.new.walk.remaining.items c.loop-visit.walk.remaining.items rest c.in-Some.visit
    c.in-Some.ensures.items (rw c.if-not-goes.false at (c.in_ok-goes.ensures.left inside))
