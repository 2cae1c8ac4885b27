use Rattle.std.proofs.Common.{◌≡◌, take}
use Rattle.tla_check.proofs.checking.variable_names.Given as goal

abbrev pub invariant-loop-variable : goal.invariant-loop-variable
invariant-loop-variable l = l.names.items ≡ take l.variable-index l.variables
