use Rattle.std.proofs.Common.{length, map}
use Rattle.tla_tree.specs.declared.word.Written.{Written}
use Rattle.tla_items.specs.Cycles.{AreStraight, IsFirstCycle}
use Rattle.tla_names.specs.Mentions.{item_of}
use Rattle.tla_items.specs.Private.Settled.{AreSettled}
use Rattle.tla_items.proofs.cycle.each_straight.Given as goal

abbrev pub invariant-loop-left : goal.invariant-loop-left
invariant-loop-left l = record {
  settled : AreSettled l.references l.settled;
  straight : AreStraight l.references (map item_of l.left) → AreStraight l.references l.items;
  first : (w : Written) → IsFirstCycle l.references (map item_of l.left) w → IsFirstCycle l.references l.items w;
}

abbrev pub decreases-loop-left : goal.decreases-loop-left
decreases-loop-left l = length l.left
