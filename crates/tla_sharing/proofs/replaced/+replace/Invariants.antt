use Rattle.std.proofs.Common.{◌+◌, ◌*◌, take}
use Rattle.tla_code.specs.declared.code.Code.{size-Code}
use Rattle.std.specs.List.{AllZip}
use Rattle.tla_sharing.specs.Private.Copies.{Replaces, FieldReplaces, UpdateReplaces}
use Rattle.tla_sharing.proofs.replaced.+replace.Given as goal

abbrev pub decreases-replaced : goal.decreases-replaced
decreases-replaced l = 8 * size-Code l.code.now + 2

abbrev pub decreases-replaced_within : goal.decreases-replaced_within
decreases-replaced_within l = 8 * size-Code l.code.now + 1

abbrev pub decreases-replaced_in_lists : goal.decreases-replaced_in_lists
decreases-replaced_in_lists l = 8 * size-Code l.code.now + 0

abbrev pub decreases-boxed : goal.decreases-boxed
decreases-boxed l = 8 * size-Code l.code.now + 3

abbrev pub decreases-boxed_under : goal.decreases-boxed_under
decreases-boxed_under l = 8 * size-Code l.code.now + 4

abbrev pub decreases-each_replaced : goal.decreases-each_replaced
decreases-each_replaced l = 8 * goal.size-each_replaced l + 4

abbrev pub decreases-fields_replaced : goal.decreases-fields_replaced
decreases-fields_replaced l = 8 * goal.size-fields_replaced l + 4

abbrev pub decreases-updates_replaced : goal.decreases-updates_replaced
decreases-updates_replaced l = 8 * goal.size-updates_replaced l + 6

abbrev pub decreases-value_replaced : goal.decreases-value_replaced
decreases-value_replaced l = 8 * size-Code l.code.now + 4

-- those so far are replaced
abbrev pub invariant-each_replaced-loop-code : goal.invariant-each_replaced-loop-code
invariant-each_replaced-loop-code l = AllZip (Replaces l.target) (take l.code-index l.codes) l.made.items

abbrev pub invariant-fields_replaced-loop-field : goal.invariant-fields_replaced-loop-field
invariant-fields_replaced-loop-field l = AllZip (FieldReplaces l.target) (take l.field-index l.fields) l.made.items

abbrev pub invariant-updates_replaced-loop-update : goal.invariant-updates_replaced-loop-update
invariant-updates_replaced-loop-update l = AllZip (UpdateReplaces l.target) (take l.update-index l.updates) l.made.items
