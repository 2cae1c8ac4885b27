use Rattle.std.proofs.Common.{◌+◌, ◌++◌, length}
use Rattle.tla_items.specs.References as references
use Rattle.tla_items.specs.Private.Reached.{AreAmong, AreLed, Covers, due}
use Rattle.tla_items.proofs.cycle.reached.Given as goal

abbrev pub invariant-loop-name : goal.invariant-loop-name
invariant-loop-name l = record {
  start : AreAmong (references.next_names l.references l.from) (l.walk.passed ++ l.walk.waiting);
  led : AreLed l.references l.from (l.walk.passed ++ l.walk.waiting);
  covers : Covers l.references l.walk.passed (l.walk.passed ++ l.walk.waiting);
}

abbrev pub decreases-loop-name : goal.decreases-loop-name
decreases-loop-name l = due l.references l.walk.passed + length l.walk.waiting
