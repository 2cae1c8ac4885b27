use Rattle.std.proofs.Common.{◌≡◌}
use Rattle.tla_value.specs.Funs.{arguments}
use Rattle.tla_operators.proofs.Arguments.{same_from}
use Rattle.tla_operators.proofs.sets.has_domain.Given as goal

-- the rest decides
abbrev pub invariant-loop-i : goal.invariant-loop-i
invariant-loop-i l = same_from (arguments l.function) l.values 0 ≡ same_from (arguments l.function) l.values l.i
