use Rattle.std.proofs.Common.{ap}
use Rattle.tla_tree.specs.Tree as t
use Rattle.tla_tree.specs.View.{views_items}
use Rattle.tla_expressions.proofs.parts.junction_of.Goals as goal

pub returns : goal.returns
returns c = ap (λ x. t.Junction c.args.at c.args.bullet x) (views_items c.args.items)
