use Rattle.std.proofs.Common.{◌≡◌, ◌+◌, ◌++◌, drop}
use Rattle.tla_scopes.specs.Meanings.{Scope}
use Rattle.tla_scopes.specs.Bound as x
use Rattle.tla_expand.specs.Private.Binders.{binds_in}
use Rattle.tla_expand.proofs.expand.binding.openings_of.Given as goal

abbrev pub invariant-loop-i : goal.invariant-loop-i
invariant-loop-i l = record {
  same : (σ : Scope) → l.openings.items ++ x.openings (binds_in (drop l.i l.binds) σ) (l.bound + l.i) ≡ x.openings (binds_in l.binds σ) l.bound;
}
