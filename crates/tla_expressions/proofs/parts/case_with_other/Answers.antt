use Rattle.std.proofs.Common.{ap}
use Rattle.tla_tree.specs.Tree as t
use Rattle.tla_tree.specs.View.{view, arm_views_items}
use Rattle.tla_expressions.proofs.parts.case_with_other.Goals as goal

pub returns : goal.returns
returns c = ap (λ x. t.Case c.args.at x (t.other (view c.args.value.value))) (arm_views_items c.args.arms)
