use Rattle.std.proofs.Common.{codes}
use Rattle.counted_writer.specs.PutsLaws.{puts_then, puts_short, puts_exit}
use Rattle.tla_core.specs.Fault.{code_text}
use Rattle.tla_report.specs.Report.{site_text, part_line}
use Rattle.tla_report.proofs.Joins.{fault_joins}
use Rattle.tla_report.proofs.report.put_fault.Goals as goal

pub returns-in_err-written : goal.returns-in_err-written
returns-in_err-written g c =
    let f = c.args.fault.now in
    let site = site_text c.args.answered.now.variables f.place f.variable in
    let end = part_line c.args.answered.now.invariants c.args.answered.now.constraints c.args.part in
    let joined = fault_joins (codes "Fault ") (code_text f.code) site end in
    puts_exit _ _ c.from_residual.ensures.1
    (rw (joined, ← c.name.ensures) (puts_short end (puts_short site c.in_err-written.ensures)))

pub returns-in_err-written-2 : goal.returns-in_err-written-2
returns-in_err-written-2 g c =
    let f = c.args.fault.now in
    let site = site_text c.args.answered.now.variables f.place f.variable in
    let end = part_line c.args.answered.now.invariants c.args.answered.now.constraints c.args.part in
    let joined = fault_joins (codes "Fault ") (code_text f.code) site end in
    puts_exit _ _ c.from_residual-in_err-written-2.ensures.1
    (rw (joined, ← c.name.ensures) (puts_short end (puts_then c.in_ok-written.ensures c.in_err-written-2.ensures)))

pub returns : goal.returns
returns g c =
    let f = c.args.fault.now in
    let site = site_text c.args.answered.now.variables f.place f.variable in
    let end = part_line c.args.answered.now.invariants c.args.answered.now.constraints c.args.part in
    let joined = fault_joins (codes "Fault ") (code_text f.code) site end in
    rw (joined, ← c.name.ensures) (puts_then (puts_then c.in_ok-written.ensures c.in_ok-written-2.ensures) c.put_part.ensures)
