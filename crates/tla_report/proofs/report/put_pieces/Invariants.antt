use Rattle.std.proofs.Common.{take, Ok}
use Rattle.counted_writer.specs.Puts.{Puts}
use Rattle.tla_report.specs.Private.Pieces.{pieces_text}
use Rattle.tla_report.proofs.report.put_pieces.Given as goal

abbrev pub invariant-loop-piece : goal.invariant-loop-piece
invariant-loop-piece g l =
    Puts (g.W.Write.contents l.initial.out) (g.W.Write.contents l.out) l.initial.written (pieces_text (take l.piece-index l.pieces)) (Ok l.written)
