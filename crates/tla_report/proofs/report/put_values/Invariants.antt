use Rattle.std.proofs.Common.{take, map, Ok}
use Rattle.counted_writer.specs.Puts.{Puts}
use Rattle.tla_value.specs.TreeOf.{tree_of}
use Rattle.tla_report.specs.Report.{value_lines}
use Rattle.tla_report.proofs.report.put_values.Given as goal

abbrev pub invariant-loop-index : goal.invariant-loop-index
invariant-loop-index g l =
    Puts (g.W.Write.contents l.initial.out) (g.W.Write.contents l.out) l.initial.written
    (value_lines (take l.index l.variables) (map tree_of (take l.index l.values))) (Ok l.written)
