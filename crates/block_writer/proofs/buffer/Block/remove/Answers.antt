use Rattle.std.proofs.Common.{rules}
use Rattle.block_writer.proofs.Waits.{range_rest}
use Rattle.block_writer.proofs.buffer.Block.remove.Goals as goal

pub returns-else-self-clause-rest : goal.returns-else-self-clause-rest
returns-else-self-clause-rest c = range_rest c.args.self.now.bytes c.args.self.now.from c.args.self.now.used c.args.count (search rules)
