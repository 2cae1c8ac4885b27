use Rattle.std.proofs.Common.{◌+◌, ◌*◌}
use Rattle.tla_code.specs.declared.code.Code.{size-Code}
use Rattle.tla_sharing.proofs.measures.+used.Given as goal

abbrev pub decreases-uses : goal.decreases-uses
decreases-uses l = 8 * size-Code l.code.now + 0

abbrev pub decreases-some_uses : goal.decreases-some_uses
decreases-some_uses l = 8 * goal.size-some_uses l + 3

abbrev pub decreases-some_field_uses : goal.decreases-some_field_uses
decreases-some_field_uses l = 8 * goal.size-some_field_uses l + 3

abbrev pub decreases-some_update_uses : goal.decreases-some_update_uses
decreases-some_update_uses l = 8 * goal.size-some_update_uses l + 4
