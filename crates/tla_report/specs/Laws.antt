-- What can be seen from the bytes of a report. (This project's own choice.)
use Rattle.std.specs.Prelude.{◌≡◌, ℕ, List, ◌++◌, codes}
use Rattle.tla_report.specs.declared.checked.Checked.{Checked}
use Rattle.tla_report.specs.Report.{report}
use Rattle.tla_report.specs.Status.{status_of}

-- the first line of the report is `No error.`
abbrev pub SaysNoError : Checked → Type 0
SaysNoError checked = (rest : List ℕ) × (report checked ≡ codes "No error.\n" ++ rest)

-- the bytes of a report determine the status
abbrev pub TellsStatus : Checked → Checked → Type 0
TellsStatus a b = report a ≡ report b → status_of a ≡ status_of b
