use Rattle.std.proofs.Common.{ap}
use Rattle.tla_tree.specs.Tree as t
use Rattle.tla_tree.specs.View.{view, views_items}
use Rattle.tla_expressions.proofs.parts.product_of.Goals as goal

pub returns : goal.returns
returns c = ap (λ x. t.Product c.args.at (view c.args.first.value) x) (views_items c.args.others)
