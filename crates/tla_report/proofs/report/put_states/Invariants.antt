use Rattle.std.proofs.Common.{take, Ok}
use Rattle.counted_writer.specs.Puts.{Puts}
use Rattle.tla_report.specs.Report.{trace_lines}
use Rattle.tla_report.proofs.report.put_states.Given as goal

abbrev pub invariant-loop-index : goal.invariant-loop-index
invariant-loop-index g l =
    Puts (g.W.Write.contents l.initial.out) (g.W.Write.contents l.out) l.initial.written (trace_lines l.variables 1 (take l.index l.states)) (Ok l.written)
