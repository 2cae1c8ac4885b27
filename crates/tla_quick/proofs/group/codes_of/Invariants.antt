use Rattle.std.proofs.Common.{take}
use Rattle.std.specs.List.{AllZip}
use Rattle.tla_code.specs.Private.Listed.{StandsFor}
use Rattle.tla_quick.specs.Groups.{referred}
use Rattle.tla_quick.proofs.group.codes_of.Given as goal

abbrev pub invariant-loop-core : goal.invariant-loop-core
invariant-loop-core l = AllZip StandsFor (referred (take l.core-index l.cores)) l.codes.items
