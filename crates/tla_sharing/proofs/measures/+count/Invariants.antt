use Rattle.std.proofs.Common.{◌+◌, ◌*◌}
use Rattle.tla_code.specs.declared.code.Code.{size-Code}
use Rattle.tla_sharing.proofs.measures.+count.Given as goal

abbrev pub decreases-size : goal.decreases-size
decreases-size l = 8 * size-Code l.code.now + 0

abbrev pub decreases-size_of_all : goal.decreases-size_of_all
decreases-size_of_all l = 8 * goal.size-size_of_all l + 3

abbrev pub decreases-size_of_fields : goal.decreases-size_of_fields
decreases-size_of_fields l = 8 * goal.size-size_of_fields l + 3

abbrev pub decreases-size_of_updates : goal.decreases-size_of_updates
decreases-size_of_updates l = 8 * goal.size-size_of_updates l + 4
