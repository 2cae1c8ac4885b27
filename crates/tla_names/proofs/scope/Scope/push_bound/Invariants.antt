use Rattle.std.proofs.Common.{◌≡◌, ◌++◌, length, map}
use Rattle.tla_tree.specs.Tree.{binders}
use Rattle.tla_tree.specs.View.{group_view}
use Rattle.tla_names.specs.Scope.{plain, bound_names}
use Rattle.tla_names.proofs.scope.Scope.push_bound.Given as goal

abbrev pub invariant-loop-left : goal.invariant-loop-left
invariant-loop-left l = l.fn.self ++ plain (bound_names (binders (map group_view l.groups))) ≡ l.self ++ plain (bound_names (binders (map group_view l.left)))

abbrev pub decreases-loop-left : goal.decreases-loop-left
decreases-loop-left l = length l.left
