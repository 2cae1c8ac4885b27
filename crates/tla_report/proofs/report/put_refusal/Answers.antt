use Rattle.std.proofs.Common.{codes, ◌++◌}
use Rattle.counted_writer.specs.PutsLaws.{puts_then, puts_short, puts_exit}
use Rattle.tla_report.specs.Codes.{refusal_code}
use Rattle.tla_report.specs.Report.{source_text, place_text, ending}
use Rattle.tla_report.proofs.Joins.{refusal_joins}
use Rattle.tla_report.proofs.report.put_refusal.Goals as goal

pub returns-in_err-written : goal.returns-in_err-written
returns-in_err-written g c =
    let r = c.args.refusal.now in
    let joined = refusal_joins (source_text r.source) (codes " refused: ") (refusal_code r.code) (place_text r.place) (ending r.name) (codes "\n") in
    puts_exit _ _ c.from_residual.ensures.1
    (rw (joined, ← c.source_name.ensures, ← c.refusal_code_text.ensures) (puts_short (ending r.name ++ codes "\n") (puts_short (place_text r.place) c.in_err-written.ensures)))

pub returns-in_err-written-2 : goal.returns-in_err-written-2
returns-in_err-written-2 g c =
    let r = c.args.refusal.now in
    let joined = refusal_joins (source_text r.source) (codes " refused: ") (refusal_code r.code) (place_text r.place) (ending r.name) (codes "\n") in
    puts_exit _ _ c.from_residual-in_err-written-2.ensures.1
    (rw (joined, ← c.source_name.ensures, ← c.refusal_code_text.ensures) (puts_short (ending r.name ++ codes "\n") (puts_then c.in_ok-written.ensures c.in_err-written-2.ensures)))

pub returns-in-None : goal.returns-in-None
returns-in-None g c =
    let r = c.args.refusal.now in
    let joined = refusal_joins (source_text r.source) (codes " refused: ") (refusal_code r.code) (place_text r.place) (ending r.name) (codes "\n") in
    rw (joined, c.in-None.is, ← c.source_name.ensures, ← c.refusal_code_text.ensures) (puts_then (puts_then c.in_ok-written.ensures c.in_ok-written-2.ensures) c.put.ensures)

pub returns-in-Some : goal.returns-in-Some
returns-in-Some g c =
    let r = c.args.refusal.now in
    let joined = refusal_joins (source_text r.source) (codes " refused: ") (refusal_code r.code) (place_text r.place) (ending r.name) (codes "\n") in
    rw (joined, c.in-Some.is, ← c.source_name.ensures, ← c.refusal_code_text.ensures, ← c.as_bytes.ensures) (puts_then (puts_then c.in_ok-written.ensures c.in_ok-written-2.ensures) c.put_line.ensures)
