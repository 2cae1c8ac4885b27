use Rattle.std.proofs.Common.{◌≡◌, ◌≤◌, ◌+◌, length, drop}
use Rattle.tla_scopes.specs.Scopes.{scope_at, AreLinked, Extends}
use Rattle.tla_scopes.specs.Meanings.{Scope}
use Rattle.tla_scopes.specs.Bound.{with_elements}
use Rattle.tla_expand.specs.Private.Binders.{binds_in}
use Rattle.tla_scopes.specs.Listed.{listed}
use Rattle.tla_expand.proofs.expand.binding.name_elements.Given as goal

abbrev pub invariant-loop-i : goal.invariant-loop-i
invariant-loop-i l = record {
  linked : AreLinked (listed l.entries);
  extends : Extends (listed l.entries) (listed l.fn.entries);
  within : l.at ≤ length (listed l.entries);
  same : (σ : Scope) → with_elements (binds_in l.binds σ) l.bound (scope_at (listed l.fn.entries) l.scope) ≡ with_elements (binds_in (drop l.i l.binds) σ) (l.bound + l.i) (scope_at (listed l.entries) l.at);
}
