use Rattle.tla_run.proofs.RunLemmas.{runs_some}
use Rattle.tla_run.proofs.process.run_process.Goals as goal

pub returns-in-Ok : goal.returns-in-Ok
returns-in-Ok g c = runs_some _ _ _ _ _ c.run.ensures
