use Rattle.std.proofs.Common.{length}
use Rattle.tla_formulas.proofs.places.Places.begins.Given as goal

abbrev pub decreases-loop-left : goal.decreases-loop-left
decreases-loop-left l = length l.left
