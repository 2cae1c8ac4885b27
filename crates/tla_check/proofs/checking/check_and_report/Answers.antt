use Rattle.std.proofs.Common.{◌≡◌, Result, Ok, Err, IfErr}
use Rattle.std.specs.Result.{IsErrAnd}
use Rattle.counted_writer.specs.Puts.{AddsFirst}
use Rattle.tla_report.specs.declared.checked.Checked.{Checked}
use Rattle.tla_report.specs.declared.report.WriteFault.{WriteFault}
use Rattle.tla_check.specs.Checks.{IsChecked}
use Rattle.tla_report.specs.Report.{report}
use Rattle.tla_check.proofs.checking.check_and_report.Goals as goal

exit : {A E : Type 0} (P : E → Type 0) (r : Result A E) (fault : E) → IsErrAnd r (λ e. e ≡ fault) → P fault → IfErr r P
exit P (Ok a) fault is p = absurd is
exit P (Err e) fault is p = rw is p

pub returns-in_err-write_report-clause-fault : goal.returns-in_err-write_report-clause-fault
returns-in_err-write_report-clause-fault g c =
    exit
    (λ (e : WriteFault). (x : Checked) × IsChecked c.args.module.now c.args.config.now c.args.options.now.limit x
    × AddsFirst (g.W.Write.contents c.args.out.now) (g.W.Write.contents c.write_report.new.out) (report x) e.written)
    _ _ c.from_residual.ensures.1 (c.check-checked.result, c.check-checked.ensures, c.in_err-write_report.ensures.fault)
