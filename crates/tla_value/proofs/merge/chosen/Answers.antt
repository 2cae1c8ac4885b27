use Rattle.std.proofs.Common.{cond, not, drop, map, sym, ap, ◌∙◌, add-one}
use Rattle.tla_value.specs.TreeOf.{tree_of}
use Rattle.tla_value.proofs.Passes.{ahead_more, ahead_here, chosen_more, as_wanted}
use Rattle.tla_value.proofs.merge.chosen.Goals as goal

pub loop-item-preserved : goal.loop-item-preserved
loop-item-preserved c =
    let vs = c.args.items.now in
    let x = c.item-item.result in
    let all = map tree_of c.args.others.now in
    let stands = sym (ahead_here vs c.loop-item.item-index x (drop c.loop-item.at all) all c.loop-item-test.true c.item-item.is c.loop-item.invariant.ahead) ∙ sym c.reach-there.ensures.found in
    record {
      within = c.reach-there.ensures.within;
      ahead = rw add-one (ahead_more vs c.loop-item.item-index x (drop c.loop-item.at all) (drop c.reach-there.result.1 all) all c.requires.rising c.loop-item-test.true c.item-item.is c.reach-there.ensures.kept c.loop-item.invariant.ahead);
      kept = rw add-one (chosen_more c.args.shared all vs c.loop-item.item-index x _ _ c.loop-item-test.true c.item-item.is _ (as_wanted c.reach-there.result.0 c.args.shared ∙ ap (λ b. cond c.args.shared b (not b)) (sym stands)) c.in_ok-keep_copy.ensures.ok c.loop-item.invariant.kept);
    }
