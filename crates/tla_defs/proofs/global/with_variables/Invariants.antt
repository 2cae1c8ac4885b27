use Rattle.std.proofs.Common.{◌≡◌, ◌+◌, length}
use Rattle.tla_expand.specs.Names.{scope_of}
use Rattle.tla_defs.specs.Global.{variables_in}
use Rattle.tla_defs.proofs.global.with_variables.Given as goal

abbrev pub invariant-loop-left : goal.invariant-loop-left
invariant-loop-left l = record {
  same : variables_in l.initial.all.variables l.names (scope_of l.initial.all.scopes) ≡ variables_in l.all.variables l.left (scope_of l.all.scopes);
  counted : l.all.variables + length l.left ≡ l.initial.all.variables + length l.names;
}

abbrev pub decreases-loop-left : goal.decreases-loop-left
decreases-loop-left l = length l.left
