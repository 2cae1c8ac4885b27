use Rattle.std.proofs.Common.{rules, List, ◌++◌, [], map, sym, subst, ◌∙◌}
use Rattle.tla_value.specs.Tree.{Tree}
use Rattle.tla_value.specs.TreeOf.{tree_of}
use Rattle.tla_core.specs.Fault.{Outcome}
use Rattle.tla_operators.specs.Gathered.{Gathers}
use Rattle.tla_operators.proofs.Different.{more_none, joined_more, joined_first, joined_end}
use Rattle.tla_operators.proofs.sets.joined.Goals as goal

pub loop-set-init : goal.loop-set-init
loop-set-init c = ([], c.new-gathered.ensures, more_none _)

pub loop-set-preserved : goal.loop-set-preserved
loop-set-preserved c =
    let kept = c.loop-set.invariant.0 in
    let xs = map tree_of c.in_ok-members.field-0.now in (
      kept ++ xs,
      c.in_ok-add_copies.ensures.ok kept c.loop-set.invariant.1,
      c.loop-set.invariant.2 ∙ joined_more c.args.place.now kept c.args.sets.now c.loop-set.set-index c.set-item.result c.set-item.is c.loop-set-test.true xs c.in_ok-members.ensures,
    )

pub returns-in_err-members : goal.returns-in_err-members
returns-in_err-members c =
    let e = c.loop-set.invariant.2 ∙ joined_first c.args.place.now c.loop-set.invariant.0 c.args.sets.now c.loop-set.set-index c.set-item.result c.set-item.is c.loop-set-test.true in
    subst (λ (o : Outcome (List Tree)). Gathers c.from_residual.result o) (sym e) (search rules)

pub returns : goal.returns
returns c =
    (c.loop-set.invariant.0, c.loop-set.invariant.2 ∙ joined_end c.args.place.now c.loop-set.invariant.0 c.args.sets.now c.loop-set.set-index c.loop-set-test.false, c.loop-set.invariant.1)
