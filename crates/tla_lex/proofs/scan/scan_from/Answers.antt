use Rattle.std.proofs.Common.{sym, length, arith}
use Rattle.tla_lex.proofs.SoFar.{so_far_none, so_far_more, so_far_stop}
use Rattle.tla_lex.proofs.Spans.{in_order_more, in_order_wider}
use Rattle.tla_lex.proofs.scan.scan_from.Goals as goal

pub loop-stop-init : goal.loop-stop-init
loop-stop-init c = record {
  so_far = rw c.new-tokens.ensures.items (so_far_none c.args.source c.args.text.now c.args.from);
  in_order = rw c.new-tokens.ensures.items (omega arith);
  place = c.place_of-place.ensures;
  within = c.requires;
}

pub loop-stop-preserved : goal.loop-stop-preserved
loop-stop-preserved c =
    let so = c.loop-stop.invariant in
    let t = c.in-Begins.token in
    let size = c.in-Begins.ensures.size in
    record {
      so_far = rw c.in_ok-push-in-Begins.ensures.items
          (so_far_more c.args.source c.args.text.now c.args.from c.loop-stop.tokens.items c.loop-stop.at t so.so_far (sym c.in-Begins.ensures.value));
      in_order = rw c.in_ok-push-in-Begins.ensures.items
          (in_order_more c.args.from c.loop-stop.at t.end c.loop-stop.tokens.items t so.in_order size.0 size.1 (omega arith));
      place = c.place_after-place.ensures;
      within = size.2;
    }

pub returns-in-Stops : goal.returns-in-Stops
returns-in-Stops c =
    let so = c.loop-stop.invariant in
    let size = c.in-Stops.ensures.size in
    record {
      reads = so_far_stop c.args.source c.args.text.now c.args.from c.loop-stop.tokens.items c.loop-stop.at c.in-Stops.stop so.so_far (sym c.in-Stops.ensures.value);
      spans = in_order_wider c.args.from c.loop-stop.at (length c.args.text.now) c.loop-stop.tokens.items so.in_order size.0;
      end = size.1;
      memory = tt;
    }
