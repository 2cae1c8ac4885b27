use Rattle.std.proofs.Common.{length}
use Rattle.tla_expand.specs.Names.{scope_of}
use Rattle.tla_defs.specs.Private.Seen.{seen}
use Rattle.tla_defs.specs.Private.Specified.{LacksState}
use Rattle.tla_defs.proofs.specification.each_of_state_level.Given as goal

abbrev pub invariant-loop-left : goal.invariant-loop-left
invariant-loop-left l = LacksState (scope_of l.scopes) (seen l.left) → LacksState (scope_of l.scopes) (seen l.trees)

abbrev pub decreases-loop-left : goal.decreases-loop-left
decreases-loop-left l = length l.left
