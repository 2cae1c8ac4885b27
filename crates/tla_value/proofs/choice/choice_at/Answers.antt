use Rattle.std.proofs.Common.{refl, arith, add-one}
use Rattle.tla_value.specs.TreeOf.{tree_of}
use Rattle.tla_value.proofs.Parts.{depth-member-is}
use Rattle.tla_value.proofs.Ways.{from_place, step_at, picked_more, pushed_pair, pushed_shallow}
use Rattle.tla_value.proofs.choice.choice_at.Goals as goal

pub nonzero_div-ways : goal.nonzero_div-ways
nonzero_div-ways c =
    (step_at (λ s. s.now) c.args.sets.now c.loop-i.i c.index-sets-i.result c.len.result c.loop-i.ways c.loop-i.left c.loop-i-test.true c.index-sets-i.is c.len.ensures.len c.loop-i.invariant.ways c.loop-i.invariant.left).some

pub nonzero_div-left : goal.nonzero_div-left
nonzero_div-left c =
    (step_at (λ s. s.now) c.args.sets.now c.loop-i.i c.index-sets-i.result c.len.result c.loop-i.ways c.loop-i.left c.loop-i-test.true c.index-sets-i.is c.len.ensures.len c.loop-i.invariant.ways c.loop-i.invariant.left).positive

pub pick-requires-clause-at : goal.pick-requires-clause-at
pick-requires-clause-at c =
    (step_at (λ s. s.now) c.args.sets.now c.loop-i.i c.index-sets-i.result c.len.result c.loop-i.ways c.loop-i.left c.loop-i-test.true c.index-sets-i.is c.len.ensures.len c.loop-i.invariant.ways c.loop-i.invariant.left).below

pub pick-requires-clause-shallow : goal.pick-requires-clause-shallow
pick-requires-clause-shallow c = omega (arith, depth-member-is c.args.arguments.now c.loop-i.i c.index-arguments-i.result c.index-arguments-i.is (omega arith))

pub nonzero_rem-left : goal.nonzero_rem-left
nonzero_rem-left c =
    (step_at (λ s. s.now) c.args.sets.now c.loop-i.i c.index-sets-i.result c.len.result c.loop-i.ways c.loop-i.left c.loop-i-test.true c.index-sets-i.is c.len.ensures.len c.loop-i.invariant.ways c.loop-i.invariant.left).positive

pub loop-i-preserved : goal.loop-i-preserved
loop-i-preserved c =
    let s = step_at (λ s. s.now) c.args.sets.now c.loop-i.i c.index-sets-i.result c.len.result c.loop-i.ways c.loop-i.left c.loop-i-test.true c.index-sets-i.is c.len.ensures.len c.loop-i.invariant.ways c.loop-i.invariant.left in
    record {
      ways = rw add-one s.next;
      left = s.left;
      shallow = pushed_shallow _ _ _ c.in_ok-push.ensures.items c.loop-i.invariant.shallow c.in_ok-pick.ensures.shallow;
      picked = rw add-one (picked_more _ _ _ _ _ _ _ _ _ _ _ _ (from_place tree_of c.args.arguments.now c.loop-i.i c.index-arguments-i.result (omega arith) c.index-arguments-i.is)
          (from_place (λ s. s.now) c.args.sets.now c.loop-i.i c.index-sets-i.result c.loop-i-test.true c.index-sets-i.is) s.next refl
          (pushed_pair _ _ _ _ _ c.in_ok-push.ensures.items c.in_ok-pick.ensures.ok) c.loop-i.invariant.picked);
    }
