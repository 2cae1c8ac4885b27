use Rattle.std.proofs.Common.{take}
use Rattle.std.specs.List.{AllZip}
use Rattle.tla_core.specs.Private.Known.{HasField}
use Rattle.tla_core.proofs.making.known_fields.Given as goal

abbrev pub invariant-loop-field : goal.invariant-loop-field
invariant-loop-field l = AllZip HasField (take l.field-index l.fields) l.pairs.items
