use Rattle.std.proofs.Common.{◌≡◌, ◌≤◌, length, drop, map}
use Rattle.tla_tree.specs.Tree.{definitions}
use Rattle.tla_tree.specs.View.{definition_view}
use Rattle.tla_scopes.specs.Scopes.{scope_at, AreLinked, Extends}
use Rattle.tla_scopes.specs.Expand.{definitions_in}
use Rattle.tla_scopes.specs.Listed.{listed}
use Rattle.tla_scopes.specs.Costs.{Costs, costs_at, costs_after, IsCheaper}
use Rattle.tla_scopes.proofs.uses.enter_definitions.Given as goal

abbrev pub invariant-loop-i : goal.invariant-loop-i
invariant-loop-i l = record {
  linked : AreLinked (listed l.entries);
  extends : Extends (listed l.entries) (listed l.fn.entries);
  within : l.at ≤ length (listed l.entries);
  same : definitions_in (definitions (map definition_view l.definitions)) (scope_at (listed l.fn.entries) l.fn.scope)
      ≡ definitions_in (definitions (map definition_view (drop l.i l.definitions))) (scope_at (listed l.entries) l.at);
  cheaper : (upper : Costs) × IsCheaper (costs_at (listed l.entries) l.at) upper
      × (costs_after (definitions (map definition_view l.definitions)) (costs_at (listed l.fn.entries) l.fn.scope) ≡ costs_after (definitions (map definition_view (drop l.i l.definitions))) upper);
}
