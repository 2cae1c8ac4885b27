use Rattle.std.proofs.Common.{ℕ, ◌+◌, ◌*◌, max, take, Option, Some, None, Bor}
use Rattle.std.specs.List.{AllZip}
use Rattle.tla_core.specs.declared.expression.Core.{Core, size-Core}
use Rattle.tla_code.specs.Private.Listed.{parts_of_arms, StandsFor, FieldStandsFor, UpdateStandsFor}
use Rattle.tla_code.proofs.arranged.+arrange.Given as goal

abbrev pub invariant-arranged_all-loop-part : goal.invariant-arranged_all-loop-part
invariant-arranged_all-loop-part l = AllZip StandsFor (take l.part-index l.parts) l.codes.items

abbrev pub invariant-arranged_arms-loop-arm : goal.invariant-arranged_arms-loop-arm
invariant-arranged_arms-loop-arm l = AllZip StandsFor (parts_of_arms (take l.arm-index l.arms)) l.codes.items

abbrev pub invariant-arranged_fields-loop-field : goal.invariant-arranged_fields-loop-field
invariant-arranged_fields-loop-field l = AllZip FieldStandsFor (take l.field-index l.fields) l.codes.items

abbrev pub invariant-arranged_updates-loop-update : goal.invariant-arranged_updates-loop-update
invariant-arranged_updates-loop-update l = AllZip UpdateStandsFor (take l.update-index l.updates) l.codes.items

-- ---- the measure: the depth of the rest, then an order of the functions
abbrev size_of_other : Option (Bor Core) → ℕ
size_of_other None = 0
size_of_other (Some core) = size-Core core.now

abbrev pub decreases-arranged : goal.decreases-arranged
decreases-arranged l = 8 * size-Core l.core.now + 1

abbrev pub decreases-arranged_other : goal.decreases-arranged_other
decreases-arranged_other l = 8 * size-Core l.core.now

abbrev pub decreases-operand : goal.decreases-operand
decreases-operand l = 8 * goal.size-operand l + 2

abbrev pub decreases-one : goal.decreases-one
decreases-one l = 8 * goal.size-one l + 4

abbrev pub decreases-two : goal.decreases-two
decreases-two l = 8 * max (size-Core l.a.now) (size-Core l.b.now) + 4

abbrev pub decreases-three : goal.decreases-three
decreases-three l = 8 * max (size-Core l.a.now) (max (size-Core l.b.now) (size-Core l.c.now)) + 4

abbrev pub decreases-binder : goal.decreases-binder
decreases-binder l = 8 * max (size-Core l.set.now) (size-Core l.body.now) + 4

abbrev pub decreases-with_items : goal.decreases-with_items
decreases-with_items l = 8 * goal.size-with_items l + 4

abbrev pub decreases-arranged_all : goal.decreases-arranged_all
decreases-arranged_all l = 8 * goal.size-arranged_all l + 3

abbrev pub decreases-arranged_arms : goal.decreases-arranged_arms
decreases-arranged_arms l = 8 * goal.size-arranged_arms l + 3

abbrev pub decreases-arranged_fields : goal.decreases-arranged_fields
decreases-arranged_fields l = 8 * goal.size-arranged_fields l + 3

abbrev pub decreases-arranged_updates : goal.decreases-arranged_updates
decreases-arranged_updates l = 8 * goal.size-arranged_updates l + 4

abbrev pub decreases-list : goal.decreases-list
decreases-list l = 8 * goal.size-list l + 4

abbrev pub decreases-cases : goal.decreases-cases
decreases-cases l = 8 * max (goal.size-cases l) (size_of_other l.other) + 5

abbrev pub decreases-named : goal.decreases-named
decreases-named l = 8 * goal.size-named l + 4

abbrev pub decreases-mapped : goal.decreases-mapped
decreases-mapped l = 8 * max (goal.size-mapped l) (size-Core l.body.now) + 5

abbrev pub decreases-updated : goal.decreases-updated
decreases-updated l = 8 * max (goal.size-updated l) (size-Core l.base.now) + 5
