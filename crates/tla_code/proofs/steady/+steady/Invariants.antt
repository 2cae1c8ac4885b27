use Rattle.std.proofs.Common.{◌+◌, ◌*◌, take}
use Rattle.std.specs.List.{All}
use Rattle.tla_code.specs.declared.code.Code.{size-Code}
use Rattle.tla_code.specs.NoVariables.{IsClosed, FieldIsClosed, UpdateIsClosed}
use Rattle.tla_code.proofs.steady.+steady.Given as goal

abbrev pub decreases-is_steady : goal.decreases-is_steady
decreases-is_steady l = 8 * size-Code l.code.now + 1

abbrev pub decreases-has_steady_parts : goal.decreases-has_steady_parts
decreases-has_steady_parts l = 8 * size-Code l.code.now + 0

abbrev pub decreases-are_steady : goal.decreases-are_steady
decreases-are_steady l = 8 * goal.size-are_steady l + 3

abbrev pub decreases-are_steady_fields : goal.decreases-are_steady_fields
decreases-are_steady_fields l = 8 * goal.size-are_steady_fields l + 3

abbrev pub decreases-are_steady_updates : goal.decreases-are_steady_updates
decreases-are_steady_updates l = 8 * goal.size-are_steady_updates l + 4

-- those so far are closed
abbrev pub invariant-are_steady-loop-code : goal.invariant-are_steady-loop-code
invariant-are_steady-loop-code l = All IsClosed (take l.code-index l.codes)

abbrev pub invariant-are_steady_fields-loop-field : goal.invariant-are_steady_fields-loop-field
invariant-are_steady_fields-loop-field l = All FieldIsClosed (take l.field-index l.fields)

abbrev pub invariant-are_steady_updates-loop-update : goal.invariant-are_steady_updates-loop-update
invariant-are_steady_updates-loop-update l = All UpdateIsClosed (take l.update-index l.updates)
