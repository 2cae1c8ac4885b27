use Rattle.std.proofs.Common.{◌+◌, ◌*◌}
use Rattle.tla_code.specs.declared.code.Code.{size-Code}
use Rattle.tla_sharing.proofs.lowered.+lower.Given as goal

abbrev pub decreases-lowered : goal.decreases-lowered
decreases-lowered l = 8 * size-Code l.code.now + 1

abbrev pub decreases-lowered_list : goal.decreases-lowered_list
decreases-lowered_list l = 8 * size-Code l.code.now + 0

abbrev pub decreases-lowered_box : goal.decreases-lowered_box
decreases-lowered_box l = 8 * size-Code l.code.now + 2

abbrev pub decreases-each_lowered : goal.decreases-each_lowered
decreases-each_lowered l = 8 * goal.size-each_lowered l + 3

abbrev pub decreases-fields_lowered : goal.decreases-fields_lowered
decreases-fields_lowered l = 8 * goal.size-fields_lowered l + 3

abbrev pub decreases-updates_lowered : goal.decreases-updates_lowered
decreases-updates_lowered l = 8 * goal.size-updates_lowered l + 4
