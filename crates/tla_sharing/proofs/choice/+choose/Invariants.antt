use Rattle.std.proofs.Common.{◌+◌, ◌*◌, max}
use Rattle.tla_code.specs.declared.code.Code.{size-Code}
use Rattle.tla_sharing.proofs.choice.+choose.Given as goal

abbrev pub decreases-chosen : goal.decreases-chosen
decreases-chosen l = 8 * size-Code l.code.now + 2

abbrev pub decreases-chosen_inside : goal.decreases-chosen_inside
decreases-chosen_inside l = 8 * size-Code l.code.now + 1

abbrev pub decreases-chosen_in_lists : goal.decreases-chosen_in_lists
decreases-chosen_in_lists l = 8 * size-Code l.code.now + 0

abbrev pub decreases-chosen_under : goal.decreases-chosen_under
decreases-chosen_under l = 8 * size-Code l.body.now + 3

abbrev pub decreases-chosen_of_two : goal.decreases-chosen_of_two
decreases-chosen_of_two l = 8 * max (size-Code l.a.now) (size-Code l.b.now) + 3

abbrev pub decreases-chosen_of_all : goal.decreases-chosen_of_all
decreases-chosen_of_all l = 8 * goal.size-chosen_of_all l + 3

abbrev pub decreases-chosen_of_fields : goal.decreases-chosen_of_fields
decreases-chosen_of_fields l = 8 * goal.size-chosen_of_fields l + 3

abbrev pub decreases-chosen_of_updates : goal.decreases-chosen_of_updates
decreases-chosen_of_updates l = 8 * goal.size-chosen_of_updates l + 4
