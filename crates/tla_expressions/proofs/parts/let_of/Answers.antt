use Rattle.std.proofs.Common.{ap}
use Rattle.tla_tree.specs.Tree as t
use Rattle.tla_tree.specs.View.{view, definition_views_items}
use Rattle.tla_expressions.proofs.parts.let_of.Goals as goal

pub returns : goal.returns
returns c = ap (λ x. t.Let c.args.at x (view c.args.body.value)) (definition_views_items c.args.definitions)
