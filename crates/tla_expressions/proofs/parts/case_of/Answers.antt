use Rattle.std.proofs.Common.{ap}
use Rattle.tla_tree.specs.Tree as t
use Rattle.tla_tree.specs.View.{arm_views_items}
use Rattle.tla_expressions.proofs.parts.case_of.Goals as goal

pub returns : goal.returns
returns c = ap (λ x. t.Case c.args.at x t.no_other) (arm_views_items c.args.arms)
