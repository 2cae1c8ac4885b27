use Rattle.std.proofs.Common.{◌≡◌, take, zip}
use Rattle.tla_value.proofs.copy.copy_zipped.Given as goal

abbrev pub invariant-loop-i : goal.invariant-loop-i
invariant-loop-i l = l.pairs.items ≡ take l.i (zip l.arguments l.values)
