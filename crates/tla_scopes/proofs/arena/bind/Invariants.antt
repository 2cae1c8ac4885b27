use Rattle.std.proofs.Common.{◌≡◌, ◌≤◌, length, drop}
use Rattle.tla_scopes.specs.Scopes.{scope_at, AreLinked, Extends, arguments_in}
use Rattle.tla_scopes.specs.Meanings.{with_parameters}
use Rattle.tla_scopes.specs.Listed.{listed}
use Rattle.tla_scopes.specs.Costs.{costs_at, costs_in, with_costs}
use Rattle.tla_scopes.proofs.arena.bind.Given as goal

abbrev pub invariant-loop-i : goal.invariant-loop-i
invariant-loop-i l = record {
  linked : AreLinked (listed l.entries);
  extends : Extends (listed l.entries) (listed l.fn.entries);
  within : l.at ≤ length (listed l.entries);
  same : with_parameters (drop l.i l.parameters) (arguments_in (drop l.i l.arguments) (scope_at (listed l.fn.entries) l.scope)) (scope_at (listed l.entries) l.at)
      ≡ with_parameters l.parameters (arguments_in l.arguments (scope_at (listed l.fn.entries) l.scope)) (scope_at (listed l.fn.entries) l.fn.home);
  costs : with_costs (drop l.i l.parameters) (costs_in (drop l.i l.arguments) (costs_at (listed l.fn.entries) l.scope)) (costs_at (listed l.entries) l.at)
      ≡ with_costs l.parameters (costs_in l.arguments (costs_at (listed l.fn.entries) l.scope)) (costs_at (listed l.fn.entries) l.fn.home);
}
