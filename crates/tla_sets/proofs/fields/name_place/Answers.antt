use Rattle.std.proofs.Common.{ap, sym, ◌∙◌, Some}
use Rattle.tla_value.specs.Tree.{text}
use Rattle.tla_value.specs.TreeOf.{tree_of}
use Rattle.tla_value.proofs.TreeTests.{eq-true}
use Rattle.tla_operators.proofs.Arguments.{found_here}
use Rattle.tla_sets.proofs.fields.name_place.Goals as goal

pub returns-then-is_name-clause-some : goal.returns-then-is_name-clause-some
returns-then-is_name-clause-some c =
    found_here c.args.values.now c.loop-i.i c.index-values-i.result c.loop-i-test.true c.index-values-i.is
    ∙ ap (λ t. Some t) (sym (eq-true (text c.args.name.now) (tree_of c.index-values-i.result) (sym c.is_name.ensures ∙ c.if-is_name.true)))
