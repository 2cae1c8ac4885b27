use Rattle.std.proofs.Common.{ap}
use Rattle.tla_tree.specs.Tree as t
use Rattle.tla_tree.specs.View.{view, bound_views_items}
use Rattle.tla_expressions.proofs.parts.function_of.Goals as goal

pub returns : goal.returns
returns c = rw c.into_inner.ensures (ap (λ x. t.DefinesFunction c.args.name x (view c.args.body.value)) (bound_views_items c.args.groups))
