use Rattle.tla_check.proofs.ReportsKept.{says-truly, reports-kept}
use Rattle.tla_check.proofs.laws.no_error_means_kept.Goals as goal

pub returns-clause-truly : goal.returns-clause-truly
returns-clause-truly c text config = says-truly text config

pub returns-clause-exactly : goal.returns-clause-exactly
returns-clause-exactly c text config = reports-kept text config
