use Rattle.std.proofs.Common.{sym, ◌∙◌}
use Rattle.block_writer.proofs.Contents.{fault_last, fault_exit}
use Rattle.block_writer.proofs.put_blocks.Goals as goal

pub returns-in_err-put-clause-fault : goal.returns-in_err-put-clause-fault
returns-in_err-put-clause-fault g c =
    fault_exit _ _ c.from_residual.ensures.1
    (fault_last c.put_full_blocks-given.result.given _ c.put_full_blocks-given.ensures (sym c.is_err.ensures.value ∙ c.if-is_err.false)
    c.as_slice-rest.ensures c.count_of.ensures c.in_err-put.ensures)
