use Rattle.std.proofs.Common.{ap}
use Rattle.tla_tree.specs.Tree as t
use Rattle.tla_tree.specs.View.{field_views_items}
use Rattle.tla_expressions.proofs.record_parts.record_of.Goals as goal

pub returns : goal.returns
returns c = ap (λ x. t.Record c.args.at x) (field_views_items c.args.fields)
