use Rattle.tla_items.specs.Private.Settled.{AreSettled}
use Rattle.tla_items.proofs.cycle.settle.Given as goal

abbrev pub invariant-loop-turn : goal.invariant-loop-turn
invariant-loop-turn l = AreSettled l.references l.settled
