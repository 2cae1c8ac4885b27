-- The texts of the two files of a line.
use Rattle.tla_run.specs.declared.host.Inputs.{Inputs}
use Rattle.tla_run.specs.Runs.{Files, Holds}

-- the texts are those of the two files
pub record HoldsBoth (files : Files) (inputs : Inputs) : Type 0 where
  pub text : Holds files inputs.line.now.module.now inputs.module.now
  pub config : Holds files inputs.line.now.config.now inputs.config.now
