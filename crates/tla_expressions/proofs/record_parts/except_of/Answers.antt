use Rattle.std.proofs.Common.{ap}
use Rattle.tla_tree.specs.Tree as t
use Rattle.tla_tree.specs.View.{view, update_views_items}
use Rattle.tla_expressions.proofs.record_parts.except_of.Goals as goal

pub returns : goal.returns
returns c = ap (λ x. t.Except c.args.at (view c.args.function.value) x) (update_views_items c.args.updates)
