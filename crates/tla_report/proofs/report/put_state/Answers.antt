use Rattle.counted_writer.specs.PutsLaws.{puts_then}
use Rattle.tla_report.proofs.report.put_state.Goals as goal

pub returns : goal.returns
returns g c = rw (← c.values.ensures.values, ← c.as_slice.ensures) (puts_then c.in_ok-written.ensures c.put_values.ensures)
