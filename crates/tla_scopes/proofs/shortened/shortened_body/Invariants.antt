use Rattle.std.proofs.Common.{◌≡◌, ◌≤◌, ℕ, List, Some}
use Rattle.tla_tree.specs.View.{view}
use Rattle.tla_scopes.specs.Meanings.{Scope, Argument, with_parameters}
use Rattle.tla_scopes.specs.Expand.{expand}
use Rattle.tla_scopes.specs.Scopes.{scope_at}
use Rattle.tla_scopes.specs.Listed.{listed}
use Rattle.tla_scopes.specs.Costs.{Costs, cost}
use Rattle.tla_scopes.proofs.shortened.shortened_body.Given as goal

abbrev pub invariant-loop-turn : goal.invariant-loop-turn
invariant-loop-turn l = record {
  same : (args : List Argument) (σ : Scope) (d : ℕ) → with_parameters l.parameters args (scope_at (listed l.entries) l.scope) ≡ Some σ → expand (view l.part) σ d ≡ expand (view l.fn.body) σ d;
  costs : (σ : Costs) → cost (view l.part) σ ≤ cost (view l.fn.body) σ;
}
