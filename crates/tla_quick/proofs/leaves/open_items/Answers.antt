use Rattle.std.proofs.Common.{map, sym, ◌∙◌}
use Rattle.tla_value.specs.TreeOf.{tree_of}
use Rattle.tla_quick.specs.Private.Environment.{bound_in}
use Rattle.tla_eval.proofs.Fitting.{opened_more}
use Rattle.tla_quick.proofs.leaves.open_items.Goals as goal

pub loop-opening-preserved : goal.loop-opening-preserved
loop-opening-preserved c p =
    c.loop-opening.invariant p
    ∙ opened_more p c.args.openings.now c.loop-opening.opening-index _ (bound_in c.args.env.now) (map tree_of c.loop-opening.items.items) (tree_of c.in_ok-element.element.now) c.loop-opening-test.true (sym c.in_ok-element.ensures)
    _ (map tree_of c.add_items.new.items.items) (c.in_ok-fitting.ensures p) c.in_ok-add_items.ensures.ok
