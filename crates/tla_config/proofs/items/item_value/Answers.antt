use Rattle.std.proofs.Common.{◌+◌}
use Rattle.tla_value.specs.TreeOf.{tree_of}
use Rattle.tla_config.proofs.ItemLists.{within_limits}
use Rattle.tla_config.proofs.items.item_value.Goals as goal

pub returns-in-Ok-clause-limits : goal.returns-in-Ok-clause-limits
returns-in-Ok-clause-limits c = within_limits c.args.text.now c.args.tokens.now (c.args.item + 2) c.in-Ok.found.end (tree_of c.in-Ok.found.value) c.in-Ok.ensures.gives
