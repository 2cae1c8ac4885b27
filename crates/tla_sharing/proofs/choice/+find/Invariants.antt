use Rattle.std.proofs.Common.{◌+◌, ◌*◌}
use Rattle.tla_code.specs.declared.code.Code.{size-Code}
use Rattle.tla_sharing.proofs.choice.+find.Given as goal

abbrev pub decreases-copies_in : goal.decreases-copies_in
decreases-copies_in l = 8 * size-Code l.code.now + 2

abbrev pub decreases-copies_inside : goal.decreases-copies_inside
decreases-copies_inside l = 8 * size-Code l.code.now + 1

abbrev pub decreases-copies_in_lists : goal.decreases-copies_in_lists
decreases-copies_in_lists l = 8 * size-Code l.code.now + 0

abbrev pub decreases-copies_in_all : goal.decreases-copies_in_all
decreases-copies_in_all l = 8 * goal.size-copies_in_all l + 3

abbrev pub decreases-copies_in_fields : goal.decreases-copies_in_fields
decreases-copies_in_fields l = 8 * goal.size-copies_in_fields l + 3

abbrev pub decreases-copies_in_updates : goal.decreases-copies_in_updates
decreases-copies_in_updates l = 8 * goal.size-copies_in_updates l + 4
