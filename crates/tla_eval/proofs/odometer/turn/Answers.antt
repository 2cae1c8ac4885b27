use Rattle.std.proofs.Common.{rules, ◌≡◌, ◌<◌, ◌-◌, suc, length, drop, None, refl, sym, ap, subst, ◌∙◌, arith}
use Rattle.std.proofs.lemmas.List.{length-map, length-set, drop_all}
use Rattle.tla_eval.specs.Private.Wheels.{wheel_tree, wheel_trees, next_wheels, turned_from}
use Rattle.tla_eval.proofs.Wheels.{none_turned, wheel_on, wheel_back}
use Rattle.tla_eval.proofs.odometer.turn.Goals as goal

pub loop-index-init : goal.loop-index-init
loop-index-init c =
    let ws = wheel_trees c.args.wheels.now.items in
    let m : c.len-index.result ≡ length c.args.wheels.now.items = search rules in
    let n : c.len-index.result ≡ length ws = m ∙ sym (length-map c.args.wheels.now.items wheel_tree) in
    record {
      now = sym (ap (λ k. turned_from k ws) n ∙ none_turned ws);
      long = refl;
      few = omega (arith, m);
      none = ap next_wheels (drop_all c.len-index.result ws (omega (arith, n)));
    }

pub returns-then-not-is_empty-clause-turned : goal.returns-then-not-is_empty-clause-turned
returns-then-not-is_empty-clause-turned c u =
    let i = c.loop-index.index - 1 in
    let ws = wheel_trees c.args.wheels.now.items in
    let kept = c.loop-index.invariant in
    let n : c.loop-index.index ≡ suc i = omega (arith, c.loop-index-test.true) in
    let below : i < length ws = subst (λ k. i < k) (sym (length-map c.args.wheels.now.items wheel_tree)) (omega (arith, n, kept.few)) in
    let more : 0 < length c.after_first-others.result.now = search rules in
    wheel_on i ws c.loop-index.wheels.items c.index.result.now below (kept.now ∙ ap (λ k. turned_from k ws) n) (omega (arith, n, kept.few, kept.long)) c.index.ensures (subst (λ k. next_wheels (drop k ws) ≡ None) n kept.none) c.after_first-others.result c.after_first-others.ensures more

pub loop-index-preserved : goal.loop-index-preserved
loop-index-preserved c =
    let i = c.loop-index.index - 1 in
    let ws = wheel_trees c.args.wheels.now.items in
    let kept = c.loop-index.invariant in
    let n : c.loop-index.index ≡ suc i = omega (arith, c.loop-index-test.true) in
    let below : i < length ws = subst (λ k. i < k) (sym (length-map c.args.wheels.now.items wheel_tree)) (omega (arith, n, kept.few)) in
    let none : length c.after_first-others.result.now ≡ 0 = search rules in
    let both = wheel_back i ws c.loop-index.wheels.items c.index.result.now below (kept.now ∙ ap (λ k. turned_from k ws) n) (omega (arith, n, kept.few, kept.long)) c.index.ensures (subst (λ k. next_wheels (drop k ws) ≡ None) n kept.none) c.after_first-others.result c.after_first-others.ensures none in
    record {
      now = both.0;
      long = length-set c.loop-index.wheels.items i _ ∙ kept.long;
      few = omega (arith, n, kept.few);
      none = both.1;
    }
