use Rattle.tla_run.proofs.RunLemmas.{gets_put}
use Rattle.tla_run.proofs.messages.tell_unwritten_report.Goals as goal

pub returns : goal.returns
returns g c = gets_put _ _ _ _ c.put.ensures
