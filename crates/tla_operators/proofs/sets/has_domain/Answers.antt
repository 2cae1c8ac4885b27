use Rattle.std.proofs.Common.{[], Some, map, sym, ap, ◌∙◌, arith}
use Rattle.std.proofs.lemmas.List.{length-map, drop_all}
use Rattle.tla_value.specs.Tree.{Tree, set, trees}
use Rattle.tla_value.specs.TreeOf.{tree_of}
use Rattle.tla_value.specs.Order.{tree_eq}
use Rattle.tla_value.specs.Funs.{arguments}
use Rattle.tla_value.proofs.TreeTests.{eq-refl}
use Rattle.tla_operators.proofs.Arguments.{other_length, arguments_step, arguments_stop}
use Rattle.tla_operators.proofs.sets.has_domain.Goals as goal

pub returns-then-len-values : goal.returns-then-len-values
returns-then-len-values c =
    let a = length-map c.args.function.now (λ (p : Tree × Tree). p.0) in
    let b = length-map c.args.values.now tree_of in
    sym (other_length (arguments c.args.function.now) (map tree_of c.args.values.now) (λ e. c.if-len-values.true (c.len.ensures.len ∙ sym a ∙ e ∙ b)))

pub returns-then-not-is_argument : goal.returns-then-not-is_argument
returns-then-not-is_argument c =
    sym (c.loop-i.invariant ∙ arguments_stop (arguments c.args.function.now) c.args.values.now c.loop-i.i c.index-values-i.result c.loop-i-test.true c.index-values-i.is (c.is_argument.ensures ∙ ap (λ r. Some r) c.if-not-is_argument.true))

pub loop-i-preserved : goal.loop-i-preserved
loop-i-preserved c =
    c.loop-i.invariant ∙ arguments_step (arguments c.args.function.now) c.args.values.now c.loop-i.i c.index-values-i.result c.loop-i-test.true c.index-values-i.is (c.is_argument.ensures ∙ ap (λ r. Some r) c.if-not-is_argument.false)

pub returns : goal.returns
returns c =
    let a = length-map c.args.function.now (λ (p : Tree × Tree). p.0) in
    let b = length-map c.args.values.now tree_of in
    let none = drop_all c.loop-i.i (arguments c.args.function.now) (omega (arith, c.loop-i-test.false, c.if-len-values.false, c.len.ensures.len)) in
    let no_values = drop_all c.loop-i.i (map tree_of c.args.values.now) (omega (arith, c.loop-i-test.false)) in
    sym (c.loop-i.invariant ∙ (λ j. tree_eq (set (trees (none j))) (set (trees (no_values j)))) ∙ eq-refl (set (trees [])))
