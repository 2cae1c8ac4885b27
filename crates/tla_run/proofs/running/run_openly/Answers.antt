use Rattle.std.proofs.Common.{◌≡◌, ◌∙◌, sym, true, false, refl}
use Rattle.std.specs.Io.KnownBytes.{Appends}
use Rattle.counted_writer.specs.Puts.{AddsFirst}
use Rattle.tla_report.specs.Report.{report}
use Rattle.tla_report.specs.declared.report.WriteFault.{WriteFault}
use Rattle.tla_run.specs.Runs.{cut_short, reported}
use Rattle.tla_run.proofs.RunLemmas.{check_of, write_done, write_failed}
use Rattle.tla_run.proofs.running.run_openly.Goals as goal

pub returns-then-is_err : goal.returns-then-is_err
returns-then-is_err g c =
    let fault = write_failed
    (λ (e : WriteFault). AddsFirst (g.O.Write.contents c.args.out.now) (g.O.Write.contents c.write_report.new.out) (report c.check-checked.result) e.written)
    c.write_report.result c.is_err.result c.is_err.ensures.value c.if-is_err.true c.write_report.ensures.fault in
    let right = check_of (g.H.Host.files c.args.host.now) c.args.inputs.now c.leaving_table-options.result.limit c.check-checked.result c.requires.reads c.leaving_table-options.ensures.limit c.check-checked.ensures in
    cut_short c.check-checked.result fault.0.written right fault.1 (λ quiet. let bad : true ≡ false = sym quiet ∙ c.requires.not_quiet in cc)
    (λ _. c.tell_unwritten_report.ensures) refl

pub returns : goal.returns
returns g c =
    let whole = write_done (Appends (g.O.Write.contents c.args.out.now) (g.O.Write.contents c.write_report.new.out) (report c.check-checked.result))
    c.write_report.result c.is_err.result c.is_err.ensures.value c.if-is_err.false c.write_report.ensures.ok in
    let right = check_of (g.H.Host.files c.args.host.now) c.args.inputs.now c.leaving_table-options.result.limit c.check-checked.result c.requires.reads c.leaving_table-options.ensures.limit c.check-checked.ensures in
    reported c.check-checked.result right whole (λ quiet. let bad : true ≡ false = sym quiet ∙ c.requires.not_quiet in cc) c.status.ensures
