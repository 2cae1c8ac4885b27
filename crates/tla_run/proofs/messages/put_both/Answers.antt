use Rattle.counted_writer.specs.PutsLaws.{puts_exit, puts_short, puts_then}
use Rattle.tla_run.proofs.messages.put_both.Goals as goal

pub returns : goal.returns
returns g c = rw (← c.as_bytes.ensures.value, ← c.as_bytes-2.ensures.value) (puts_then c.in_ok-written.ensures c.put-2.ensures)

pub returns-in_err-written : goal.returns-in_err-written
returns-in_err-written g c = puts_exit _ _ c.from_residual.ensures.1
    (rw (← c.as_bytes.ensures.value) (puts_short _ c.in_err-written.ensures))
