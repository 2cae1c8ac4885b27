use Rattle.std.proofs.Common.{take}
use Rattle.std.specs.List.{AllZip}
use Rattle.tla_core.specs.Private.Known.{HasValue}
use Rattle.tla_core.proofs.making.known_values.Given as goal

abbrev pub invariant-loop-part : goal.invariant-loop-part
invariant-loop-part l = AllZip HasValue (take l.part-index l.parts) l.values.items
