use Rattle.counted_writer.specs.PutsLaws.{puts_then}
use Rattle.tla_report.proofs.report.put_line.Goals as goal

pub returns : goal.returns
returns g c = puts_then c.in_ok-written.ensures c.put.ensures
