use Rattle.std.proofs.Common.{arith, inr, refl}
use Rattle.tla_hints.proofs.Feeds.{feeds_at_feed, feeds_at_other, feed_before}
use Rattle.tla_hints.proofs.lines.start_of.Goals as goal
use Rattle.tla_hints.proofs.lines.start_of.Goals.{then-byte-eq10, else-byte-eq10}

pub loop-index-preserved : goal.loop-index-preserved
loop-index-preserved c =
    elim c.if-byte-eq10.branch [
      | then-byte-eq10 w ↦
          let more = feeds_at_feed c.args.text.now c.loop-index.index c.loop-index-test.true w.if-byte-eq10.true in
          record {
            counted = omega (arith, more);
            since = rw w.start-is refl;
            within = omega arith;
            first = inr (feed_before _ _ _ w.start-is w.if-byte-eq10.true);
          }
      | else-byte-eq10 w ↦
          let more = feeds_at_other c.args.text.now c.loop-index.index c.loop-index-test.true w.if-byte-eq10.false in
          record {
            counted = omega (arith, more);
            since = rw (w.start-is, more) c.loop-index.invariant.since;
            within = omega arith;
            first = rw w.start-is c.loop-index.invariant.first;
          }
    ]
