use Rattle.std.proofs.Common.{◌≡◌, ◌++◌, drop, map}
use Rattle.tla_tree.specs.View.{group_view}
use Rattle.tla_tree.specs.Tree.{binders}
use Rattle.tla_scopes.specs.Meanings.{Scope}
use Rattle.tla_scopes.specs.Expand.{binds_of}
use Rattle.tla_expand.specs.Private.Binders.{binds_in}
use Rattle.tla_expand.proofs.binders.bind_list.Given as goal

abbrev pub invariant-loop-i : goal.invariant-loop-i
invariant-loop-i l = record {
  same : (σ : Scope) → binds_in l.binds.items σ ++ binds_of (binders (map group_view (drop l.i l.groups))) σ ≡ binds_of (binders (map group_view l.groups)) σ;
}
