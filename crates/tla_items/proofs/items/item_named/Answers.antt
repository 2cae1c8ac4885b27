use Rattle.std.proofs.Common.{ap}
use Rattle.tla_value.specs.TreeOf.{tree_of}
use Rattle.tla_config.specs.View.{item_view}
use Rattle.tla_items.proofs.items.item_named.Goals as goal

pub returns-in-Value : goal.returns-in-Value
returns-in-Value c = rw (ap item_view c.in-Value.is) (c.value_named.ensures (tree_of c.in-Value.field-1) c.args.operators.now)

pub returns-in-Replaces : goal.returns-in-Replaces
returns-in-Replaces c = rw (ap item_view c.in-Replaces.is) (c.replacement_named.ensures c.args.values.now)
