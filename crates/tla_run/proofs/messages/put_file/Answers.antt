use Rattle.std.proofs.Common.{codes}
use Rattle.counted_writer.specs.PutsLaws.{puts_exit, puts_short, puts_then}
use Rattle.tla_run.proofs.RunLemmas.{puts_line}
use Rattle.tla_run.proofs.messages.put_file.Goals as goal

pub returns : goal.returns
returns g c = puts_line c.args.start.now c.args.name.now (codes "\n") c.args.more.now
    (rw (← c.as_bytes.ensures.value, ← c.as_bytes-2.ensures.value, ← c.as_bytes-3.ensures.value)
    (puts_then c.in_ok-written.ensures (puts_then c.in_ok-written-2.ensures (puts_then c.in_ok-written-3.ensures c.put-4.ensures))))

pub returns-in_err-written : goal.returns-in_err-written
returns-in_err-written g c = puts_line c.args.start.now c.args.name.now (codes "\n") c.args.more.now
    (puts_exit _ _ c.from_residual.ensures.1 (rw (← c.as_bytes.ensures.value) (puts_short _ c.in_err-written.ensures)))

pub returns-in_err-written-2 : goal.returns-in_err-written-2
returns-in_err-written-2 g c = puts_line c.args.start.now c.args.name.now (codes "\n") c.args.more.now
    (puts_exit _ _ c.from_residual-in_err-written-2.ensures.1 (rw (← c.as_bytes.ensures.value, ← c.as_bytes-2.ensures.value)
    (puts_then c.in_ok-written.ensures (puts_short _ c.in_err-written-2.ensures))))

pub returns-in_err-written-3 : goal.returns-in_err-written-3
returns-in_err-written-3 g c = puts_line c.args.start.now c.args.name.now (codes "\n") c.args.more.now
    (puts_exit _ _ c.from_residual-in_err-written-3.ensures.1 (rw (← c.as_bytes.ensures.value, ← c.as_bytes-2.ensures.value)
    (puts_then c.in_ok-written.ensures (puts_then c.in_ok-written-2.ensures (puts_short _ c.in_err-written-3.ensures)))))
