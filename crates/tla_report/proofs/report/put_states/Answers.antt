use Rattle.std.proofs.Common.{◌+◌, suc, add-one, arith, ap, length, ◌∙◌}
use Rattle.counted_writer.specs.PutsLaws.{puts_then, puts_short, puts_exit}
use Rattle.tla_report.proofs.Lines.{trace_more, trace_rest, whole_at}
use Rattle.tla_report.proofs.report.put_states.Goals as goal

pub put_state-requires : goal.put_state-requires
put_state-requires g c =
    ap length c.index-states-index.is ∙ whole_at (length c.args.variables.now) c.args.states.now c.loop-index.index c.index-states-index.result c.requires c.loop-index-test.true

pub loop-index-preserved : goal.loop-index-preserved
loop-index-preserved g c =
    let i = c.loop-index.index in
    let more = trace_more c.args.variables.now 1 c.args.states.now i (i + 1) c.index-states-index.result c.loop-index-test.true (omega arith) in
    rw (add-one, more, ← c.index-states-index.is) (puts_then c.loop-index.invariant c.in_ok-written.ensures)

pub returns-in_err-written : goal.returns-in_err-written
returns-in_err-written g c =
    let i = c.loop-index.index in
    let rest = trace_rest c.args.variables.now 1 c.args.states.now (suc i) in
    let more = trace_more c.args.variables.now 1 c.args.states.now i (i + 1) c.index-states-index.result c.loop-index-test.true (omega arith) in
    puts_exit _ _ c.from_residual.ensures.1
    (rw (rest.1, more, ← c.index-states-index.is) (puts_short rest.0 (puts_then c.loop-index.invariant c.in_err-written.ensures)))
