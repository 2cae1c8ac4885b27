use Rattle.std.proofs.Common.{suc}
use Rattle.counted_writer.specs.PutsLaws.{puts_then, puts_short, puts_exit}
use Rattle.tla_report.specs.Private.Pieces.{piece_text}
use Rattle.tla_report.proofs.Lines.{pieces_more, pieces_rest}
use Rattle.tla_report.proofs.report.put_pieces.Goals as goal

pub returns-in_err-written : goal.returns-in_err-written
returns-in_err-written g c =
    let rest = pieces_rest piece_text c.args.pieces.now (suc c.loop-piece.piece-index) in
    let more = pieces_more piece_text c.args.pieces.now c.loop-piece.piece-index c.piece-item.result c.loop-piece-test.true in
    puts_exit _ _ c.from_residual.ensures.1 (rw (rest.1, more, ← c.piece-item.is) (puts_short rest.0 (puts_then c.loop-piece.invariant c.in_err-written.ensures)))
