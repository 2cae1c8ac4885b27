use Rattle.std.proofs.Common.{◌≡◌, ◌≤◌, ◌<◌, ◌+◌, ◌^◌, length, drop}
use Rattle.tla_scopes.specs.Scopes.{scope_at, AreLinked, Extends}
use Rattle.tla_scopes.specs.Bound.{with_each}
use Rattle.tla_scopes.specs.Listed.{listed}
use Rattle.tla_expand.proofs.expand.binding.name_each.Given as goal

abbrev pub invariant-loop-i : goal.invariant-loop-i
invariant-loop-i l = record {
  linked : AreLinked (listed l.entries);
  extends : Extends (listed l.entries) (listed l.fn.entries);
  within : l.at ≤ length (listed l.entries);
  grown : length (listed l.entries) ≡ length (listed l.fn.entries) + l.i;
  few : l.bound + l.i < 2 ^ 64;
  same : with_each l.names l.bound (scope_at (listed l.fn.entries) l.scope) ≡ with_each (drop l.i l.names) (l.bound + l.i) (scope_at (listed l.entries) l.at);
}
