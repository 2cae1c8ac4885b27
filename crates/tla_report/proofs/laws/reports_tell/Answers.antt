use Rattle.tla_report.proofs.ReportTells.{tells-status, no-error-zero}
use Rattle.tla_report.proofs.laws.reports_tell.Goals as goal

pub returns-clause-status : goal.returns-clause-status
returns-clause-status c a b = tells-status a b

pub returns-clause-no_error : goal.returns-clause-no_error
returns-clause-no_error c checked = no-error-zero checked
