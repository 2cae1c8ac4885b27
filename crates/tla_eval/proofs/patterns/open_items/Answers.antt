use Rattle.std.proofs.Common.{rules, Vec, Global, map, sym, subst, ◌∙◌}
use Rattle.tla_value.specs.TreeOf.{tree_of}
use Rattle.tla_value.specs.declared.value.Value.{Value}
use Rattle.tla_eval.specs.Private.Environment.{bound_of}
use Rattle.tla_operators.specs.Gives.{GivesBy}
use Rattle.tla_eval.proofs.Fitting.{opened_first, opened_more}
use Rattle.tla_eval.proofs.patterns.open_items.Goals as goal

pub loop-opening-preserved : goal.loop-opening-preserved
loop-opening-preserved c =
    c.loop-opening.invariant
    ∙ opened_more c.args.place.now c.args.openings.now c.loop-opening.opening-index _ (bound_of c.args.frame.now) (map tree_of c.loop-opening.items.items) (tree_of c.value.result.now) c.loop-opening-test.true (c.value.ensures ∙ c.bound_value-element.ensures)
    _ (map tree_of c.add_items.new.items.items) c.in_ok-values.ensures c.in_ok-add_items.ensures.ok

pub returns-in_err-values : goal.returns-in_err-values
returns-in_err-values c =
    let e = c.loop-opening.invariant
    ∙ opened_first c.args.place.now c.args.openings.now c.loop-opening.opening-index _ (bound_of c.args.frame.now) (map tree_of c.loop-opening.items.items) (tree_of c.value.result.now) c.loop-opening-test.true (c.value.ensures ∙ c.bound_value-element.ensures) in
    subst (λ o. GivesBy (λ (v : Vec Value Global). map tree_of v.items) c.from_residual.result o) (sym e) (search rules)
