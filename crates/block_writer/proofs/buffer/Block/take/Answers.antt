use Rattle.std.proofs.Common.{◌≤◌, length, take, arith, rules, length-take-le}
use Rattle.block_writer.proofs.Waits.{range_more}
use Rattle.block_writer.proofs.buffer.Block.take.Goals as goal
use Rattle.block_writer.proofs.buffer.Block.take.Goals.{then-self-taken, else-self-taken}

pub returns-clause-behind : goal.returns-clause-behind
returns-clause-behind c =
    let block = c.args.self.now in
    let taken = c.if-self-taken.taken in
    let within : taken ≤ length c.args.bytes.now = elim c.if-self-taken.branch [
      | then-self-taken w ↦ omega arith
      | else-self-taken w ↦ omega arith
    ] in
    range_more block.bytes (take taken c.args.bytes.now) c.copy_from_slice.new.self block.from block.used _ taken
    c.copy_from_slice.ensures.after (length-take-le taken c.args.bytes.now within) block.ordered (search rules)
