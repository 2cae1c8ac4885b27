use Rattle.counted_writer.specs.PutsLaws.{puts_then, puts_short, puts_exit}
use Rattle.tla_report.proofs.report.put_answer.Goals as goal

pub returns : goal.returns
returns g c = rw (← c.counts.ensures) (puts_then (puts_then c.in_ok-written.ensures c.in_ok-written-2.ensures) c.put_counts.ensures)

pub returns-in_err-written-2 : goal.returns-in_err-written-2
returns-in_err-written-2 g c = puts_exit _ _ c.from_residual-in_err-written-2.ensures.1 (puts_short _ (puts_then c.in_ok-written.ensures c.in_err-written-2.ensures))
