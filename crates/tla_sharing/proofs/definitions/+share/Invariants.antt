use Rattle.std.proofs.Common.{take}
use Rattle.std.specs.List.{AllZip}
use Rattle.tla_sharing.specs.Private.Copies.{Agrees, FieldAgrees, UpdateAgrees}
use Rattle.tla_sharing.proofs.definitions.+share.Given as goal

abbrev pub decreases-shared_body : goal.decreases-shared_body
decreases-shared_body l = l.spot.calls

abbrev pub decreases-defined : goal.decreases-defined
decreases-defined l = l.spot.calls

abbrev pub decreases-boxed_inside : goal.decreases-boxed_inside
decreases-boxed_inside l = l.spot.calls

abbrev pub decreases-shared_parts : goal.decreases-shared_parts
decreases-shared_parts l = l.spot.calls

abbrev pub decreases-shared_lists : goal.decreases-shared_lists
decreases-shared_lists l = l.spot.calls

abbrev pub decreases-boxed : goal.decreases-boxed
decreases-boxed l = l.spot.calls

abbrev pub decreases-boxed_body : goal.decreases-boxed_body
decreases-boxed_body l = l.spot.calls

abbrev pub decreases-each_shared : goal.decreases-each_shared
decreases-each_shared l = l.spot.calls

abbrev pub decreases-fields_shared : goal.decreases-fields_shared
decreases-fields_shared l = l.spot.calls

abbrev pub decreases-updates_shared : goal.decreases-updates_shared
decreases-updates_shared l = l.spot.calls

-- those so far denote the same as before
abbrev pub invariant-each_shared-loop-code : goal.invariant-each_shared-loop-code
invariant-each_shared-loop-code l = AllZip (Agrees l.spot.outside.now) (take l.code-index l.codes) l.made.items

abbrev pub invariant-fields_shared-loop-field : goal.invariant-fields_shared-loop-field
invariant-fields_shared-loop-field l = AllZip (FieldAgrees l.spot.outside.now) (take l.field-index l.fields) l.made.items

abbrev pub invariant-updates_shared-loop-update : goal.invariant-updates_shared-loop-update
invariant-updates_shared-loop-update l = AllZip (UpdateAgrees l.spot.outside.now) (take l.update-index l.updates) l.made.items
