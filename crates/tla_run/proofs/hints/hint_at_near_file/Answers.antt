use Rattle.tla_run.proofs.RunLemmas.{grows_none, grows_put}
use Rattle.tla_run.proofs.hints.hint_at_near_file.Goals as goal

pub returns-in-Some : goal.returns-in-Some
returns-in-Some g c = grows_put _ _ _ _ _ c.put.ensures

pub returns-in_default : goal.returns-in_default
returns-in_default g c = grows_none _
