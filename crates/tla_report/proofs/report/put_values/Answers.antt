use Rattle.std.proofs.Common.{suc, add-one, arith, ◌<◌, length}
use Rattle.counted_writer.specs.PutsLaws.{puts_then, puts_short, puts_exit}
use Rattle.tla_report.proofs.Lines.{values_more, values_rest}
use Rattle.tla_report.proofs.report.put_values.Goals as goal

pub loop-index-preserved : goal.loop-index-preserved
loop-index-preserved g c =
    let named : c.loop-index.index < length c.args.variables.now = omega arith in
    let more = values_more c.args.variables.now c.args.values.now c.loop-index.index c.index-variables-index.result c.index-values-index.result named c.loop-index-test.true in
    rw (add-one, more, ← c.index-values-index.is, ← c.index-variables-index.is, ← c.as_str.ensures.bytes) (puts_then c.loop-index.invariant c.in_ok-written.ensures)

pub returns-in_err-written : goal.returns-in_err-written
returns-in_err-written g c =
    let named : c.loop-index.index < length c.args.variables.now = omega arith in
    let rest = values_rest c.args.variables.now c.args.values.now (suc c.loop-index.index) in
    let more = values_more c.args.variables.now c.args.values.now c.loop-index.index c.index-variables-index.result c.index-values-index.result named c.loop-index-test.true in
    puts_exit _ _ c.from_residual.ensures.1
    (rw (rest.1, more, ← c.index-values-index.is, ← c.index-variables-index.is, ← c.as_str.ensures.bytes) (puts_short rest.0 (puts_then c.loop-index.invariant c.in_err-written.ensures)))
