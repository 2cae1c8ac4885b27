use Rattle.std.proofs.Common.{ap}
use Rattle.tla_tree.specs.Tree as t
use Rattle.tla_tree.specs.View.{views_items}
use Rattle.tla_expressions.proofs.parts.listing_of.Goals as goal

pub returns : goal.returns
returns c = ap (λ x. t.Listing c.args.at c.args.brackets x) (views_items c.args.items)
