use Rattle.std.proofs.Common.{Some, ap, sym, ◌∙◌}
use Rattle.std.specs.Ordering.{is_eq}
use Rattle.tla_value.specs.Tree.{text}
use Rattle.tla_value.specs.TreeOf.{tree_of}
use Rattle.tla_value.proofs.TreeTests.{eq-true}
use Rattle.tla_value.proofs.Sorts.{slice-trees}
use Rattle.tla_value.proofs.fun.text_place.Goals as goal

pub returns-then-is_eq-clause-some : goal.returns-then-is_eq-clause-some
returns-then-is_eq-clause-some c =
    let same = eq-true (text c.args.name.now) (text c.in-Text.value) (sym (c.is_eq.ensures ∙ ap is_eq c.order.ensures) ∙ c.if-is_eq.true) in
    slice-trees c.args.values.now c.loop-i.i c.index-values-i.result c.loop-i-test.true
    ∙ ap (λ v. Some (tree_of v)) (sym c.index-values-i.is ∙ c.in-Text.is)
    ∙ ap (λ t. Some t) (sym same)
