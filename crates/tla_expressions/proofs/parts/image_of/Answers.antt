use Rattle.std.proofs.Common.{ap}
use Rattle.tla_tree.specs.Tree as t
use Rattle.tla_tree.specs.View.{view, bound_views_items}
use Rattle.tla_expressions.proofs.parts.image_of.Goals as goal

pub returns : goal.returns
returns c = ap (λ x. t.Image c.args.at (view c.args.element.value) x) (bound_views_items c.args.groups)
