use Rattle.tla_tree.specs.View.{view}
use Rattle.tla_scopes.specs.Expand.{expand}
use Rattle.tla_scopes.specs.Scopes.{scope_at}
use Rattle.tla_expand.specs.Private.Walks.{IsWalk}
use Rattle.tla_scopes.specs.Listed.{listed}
use Rattle.tla_expand.specs.Private.Walks.{weights}
use Rattle.tla_expand.proofs.cover.visit_all.Given as goal

abbrev pub invariant-loop-visit : goal.invariant-loop-visit
invariant-loop-visit l = record {
  goes : IsWalk (expand (view l.fn.tree) (scope_at (listed l.fn.walk.entries) l.fn.scope) 0) (listed l.walk.entries) l.walk.remaining.items l.walk.visited.keys l.walk.found.keys;
}

abbrev pub decreases-loop-visit : goal.decreases-loop-visit
decreases-loop-visit l = weights (listed l.walk.entries) l.walk.remaining.items
