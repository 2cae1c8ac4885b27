use Rattle.std.proofs.Common.{◌≡◌, ◌++◌, [], drop}
use Rattle.tla_tree.specs.View.{view}
use Rattle.tla_scopes.specs.Meanings.{Scope}
use Rattle.tla_scopes.specs.Bound.{bind_each}
use Rattle.tla_scopes.specs.Expand.{expand}
use Rattle.tla_expand.specs.Private.Binders.{binds_in}
use Rattle.tla_expand.proofs.binders.push_each.Given as goal

abbrev pub invariant-loop-i : goal.invariant-loop-i
invariant-loop-i l = record {
  same : (σ : Scope) → binds_in l.binds.items σ ++ bind_each (drop l.i l.names) (expand (view l.set) σ) [] ≡ binds_in l.fn.binds.items σ ++ bind_each l.names (expand (view l.set) σ) [];
}
