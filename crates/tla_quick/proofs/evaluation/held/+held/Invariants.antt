use Rattle.std.proofs.Common.{◌+◌, ◌*◌, max}
use Rattle.tla_code.specs.declared.code.Code.{size-Code}
use Rattle.tla_quick.proofs.evaluation.held.+held.Given as goal

-- ---- the measure: the depth of the rest
abbrev pub decreases-held : goal.decreases-held
decreases-held l = 2 * size-Code l.code.now

abbrev pub decreases-held_of_one : goal.decreases-held_of_one
decreases-held_of_one l = 2 * size-Code l.operand.now + 1

abbrev pub decreases-held_of_two : goal.decreases-held_of_two
decreases-held_of_two l = 2 * max (size-Code l.left.now) (size-Code l.right.now) + 1
