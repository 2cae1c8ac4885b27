use Rattle.std.proofs.Common.{◌≡◌, ◌≤◌, length, ℕ}
use Rattle.tla_scopes.specs.Scopes.{scope_at, AreLinked, Extends}
use Rattle.tla_scopes.specs.Expand.{expand}
use Rattle.tla_scopes.specs.Primes.{with_primes}
use Rattle.tla_tree.specs.View.{view}
use Rattle.tla_scopes.specs.Listed.{listed}
use Rattle.tla_scopes.specs.Costs.{cost, costs_at}
use Rattle.tla_scopes.proofs.uses.find_head.Given as goal

abbrev pub invariant-loop-head : goal.invariant-loop-head
invariant-loop-head l = record {
  linked : AreLinked (listed l.entries);
  extends : Extends (listed l.entries) (listed l.fn.entries);
  within : l.at ≤ length (listed l.entries);
  same : (d : ℕ) → with_primes l.fn.primes (expand (view l.fn.start) (scope_at (listed l.fn.entries) l.fn.scope) d) ≡ with_primes l.with (expand (view l.tree) (scope_at (listed l.entries) l.at) d);
}

abbrev pub decreases-loop-head : goal.decreases-loop-head
decreases-loop-head l = cost (view l.tree) (costs_at (listed l.entries) l.at)
