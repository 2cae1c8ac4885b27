use Rattle.std.proofs.Common.{◌≡◌, ◌+◌, ◌*◌, drop}
use Rattle.tla_core.specs.declared.expression.Core.{size-Core}
use Rattle.tla_core.specs.ExprOf.{parts_of_cores, fields_of_cores, arms_of_cores, updates_of_cores}
use Rattle.tla_core.specs.Logic.{arms_primed}
use Rattle.tla_core.specs.Functions.{updates_primed}
use Rattle.tla_value.specs.Choices.{parts_of}
use Rattle.tla_core.specs.Meaning.{any_primed}
use Rattle.tla_core.proofs.primed.+primed.Given as goal

-- the rest of the parts decides
abbrev pub invariant-some_has_next-loop-part : goal.invariant-some_has_next-loop-part
invariant-some_has_next-loop-part l = any_primed (parts_of_cores l.parts) ≡ any_primed (parts_of_cores (drop l.part-index l.parts))

abbrev pub invariant-fields_have_next-loop-field : goal.invariant-fields_have_next-loop-field
invariant-fields_have_next-loop-field l = any_primed (parts_of (fields_of_cores l.fields)) ≡ any_primed (parts_of (fields_of_cores (drop l.field-index l.fields)))

abbrev pub invariant-arms_have_next-loop-arm : goal.invariant-arms_have_next-loop-arm
invariant-arms_have_next-loop-arm l = arms_primed (arms_of_cores l.arms) ≡ arms_primed (arms_of_cores (drop l.arm-index l.arms))

abbrev pub invariant-updates_have_next-loop-update : goal.invariant-updates_have_next-loop-update
invariant-updates_have_next-loop-update l = updates_primed (updates_of_cores l.updates) ≡ updates_primed (updates_of_cores (drop l.update-index l.updates))

-- ---- the measure: the depth of the rest, then an order of the functions
abbrev pub decreases-has_next : goal.decreases-has_next
decreases-has_next l = 4 * size-Core l.core.now

abbrev pub decreases-some_has_next : goal.decreases-some_has_next
decreases-some_has_next l = 4 * goal.size-some_has_next l + 1

abbrev pub decreases-fields_have_next : goal.decreases-fields_have_next
decreases-fields_have_next l = 4 * goal.size-fields_have_next l + 1

abbrev pub decreases-arms_have_next : goal.decreases-arms_have_next
decreases-arms_have_next l = 4 * goal.size-arms_have_next l + 1

abbrev pub decreases-updates_have_next : goal.decreases-updates_have_next
decreases-updates_have_next l = 4 * goal.size-updates_have_next l + 2
