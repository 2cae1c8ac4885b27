use Rattle.std.proofs.Common.{◌≡◌, ◌++◌, true, List, subst}
use Rattle.tla_config.specs.Names.{Name, is_among}
use Rattle.tla_items.specs.Private.Reached.{AreLed, Covers}
use Rattle.tla_items.proofs.cycle.reached.Goals as goal

pub loop-name-preserved : goal.loop-name-preserved
loop-name-preserved c =
    let ls = c.args.references.now in
    let passed = c.loop-name.walk.passed in
    let popped = c.in-Some.ensures.some in
    let kept = c.loop-name.invariant in
    let goes = c.in_ok-go_on.ensures.ok in
    record {
      start = λ z h. goes.kept z (subst (λ (xs : List Name). is_among z (passed ++ xs) ≡ true) popped (kept.start z h));
      led = goes.led c.args.from.now (subst (λ (xs : List Name). AreLed ls c.args.from.now (passed ++ xs)) popped kept.led);
      covers = goes.covers (subst (λ (xs : List Name). Covers ls passed (passed ++ xs)) popped kept.covers);
    }
