use Rattle.std.proofs.Common.{◌≡◌, ◌+◌}
use Rattle.tla_config.proofs.ItemLists.{written_beyond}
use Rattle.tla_config.proofs.items.refused_value.Goals as goal

pub returns-in-Ok-clause-because : goal.returns-in-Ok-clause-because
returns-in-Ok-clause-because c =
    let f = rw c.in-TooLarge.is at c.requires.fails in
    let b = rw c.in-TooLarge.is at c.requires.because in
    (b.0, written_beyond c.args.text.now c.args.tokens.now (c.args.item + 2) c.in-Ok.field-0 f c.in-Ok.ensures.found)

pub returns-in-Unexpected-clause-because : goal.returns-in-Unexpected-clause-because
returns-in-Unexpected-clause-because c = (rw c.in-Unexpected.is at c.requires.because).no_literal
