use Rattle.std.proofs.Common.{◌≡◌, ◌≤◌, ◌+◌, ℕ, length, drop}
use Rattle.tla_core.specs.Patterns.{items_in}
use Rattle.tla_scopes.specs.Scopes.{scope_at, AreLinked, Extends}
use Rattle.tla_scopes.specs.Meanings.{Scope}
use Rattle.tla_scopes.specs.Bound.{with_items, openings}
use Rattle.tla_expand.specs.Private.Binders.{binds_in}
use Rattle.tla_scopes.specs.Listed.{listed}
use Rattle.tla_expand.proofs.expand.binding.name_items.Given as goal

abbrev pub invariant-loop-i : goal.invariant-loop-i
invariant-loop-i l = record {
  linked : AreLinked (listed l.entries);
  extends : Extends (listed l.entries) (listed l.fn.entries);
  within : l.at ≤ length (listed l.entries);
  grown : l.next + length (listed l.fn.entries) ≡ l.bound + length (listed l.entries);
  bound : (σ : Scope) (d : ℕ) → l.next + items_in (openings (binds_in (drop l.i l.binds) σ) d) ≡ l.bound + items_in (openings (binds_in l.binds σ) d);
  same : (σ : Scope) → with_items (binds_in l.binds σ) l.bound (scope_at (listed l.fn.entries) l.scope) ≡ with_items (binds_in (drop l.i l.binds) σ) l.next (scope_at (listed l.entries) l.at);
}
