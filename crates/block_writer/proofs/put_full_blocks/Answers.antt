use Rattle.std.proofs.Common.{◌≡◌, ◌∙◌, sym, ap, rules}
use Rattle.block_writer.specs.Waiting.{waiting}
use Rattle.block_writer.proofs.Waits.{range_within}
use Rattle.block_writer.proofs.Contents.{sends_from}
use Rattle.block_writer.proofs.put_full_blocks.Goals as goal

pub returns : goal.returns
returns g c =
    let made = c.new-blocks.ensures in
    let block = c.put_on-given.new.out.block in
    let within = range_within block.bytes block.from block.used block.given block.counted in
    let kept = rw c.count_of.ensures at c.keep_last.ensures in
    sends_from (waiting block) (ap g.W.Write.contents made.same) made.empty made.none within block.fits c.put_on-given.ensures
    (λ (same : c.put_on-given.new.out.out.ghost_name ≡ c.new-blocks.result.out.ghost_name). let name = sym (same ∙ made.same_reference) in search rules)
    kept
