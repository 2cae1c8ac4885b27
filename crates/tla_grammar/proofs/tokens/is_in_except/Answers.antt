use Rattle.std.proofs.Common.{◌≡◌, ◌-◌, ◌↔◌, ◌∙◌, Some, suc, subst, sym, ap, arith, rules}
use Rattle.std.specs.List.{slice_get}
use Rattle.std.proofs.lemmas.Option.{slice_get-get_or}
use Rattle.tla_grammar.specs.LeftOut.{IsInExcept}
use Rattle.tla_grammar.proofs.Updates.{IsWithin, within_any, within_none, within_itself, within_before}
use Rattle.tla_grammar.proofs.tokens.is_in_except.Goals as goal

pub loop-turn-init : goal.loop-turn-init
loop-turn-init c = record { same = within_any c.args.tokens.now c.args.at c.requires; left = omega arith; few = omega arith }

pub returns-then-is_except_itself : goal.returns-then-is_except_itself
returns-then-is_except_itself c =
    let ts = c.args.tokens.now in let before = c.loop-turn.place - 1 in
    let next : c.loop-turn.place ≡ suc before = omega (arith, c.loop-turn.invariant.left, c.loop-turn-test.true) in
    let same : IsWithin ts (suc before) c.loop-turn.least ↔ IsInExcept ts c.args.at = subst (λ z. IsWithin ts z c.loop-turn.least ↔ IsInExcept ts c.args.at) next c.loop-turn.invariant.same in
    let l = c.in-Some.ensures.lookup in
    let here : slice_get ts before ≡ Some c.in-Some.t.now = slice_get-get_or ts before c.in-Some.t.now l.3.0 ∙ ap Some (sym l.1) in
    (λ t. same.0 (within_itself ts before c.loop-turn.least c.in-Some.t.now here (c.is_except_itself.ensures.0 (search rules))), λ h. search rules)

pub loop-turn-preserved : goal.loop-turn-preserved
loop-turn-preserved c =
    let ts = c.args.tokens.now in let before = c.loop-turn.place - 1 in
    let next : c.loop-turn.place ≡ suc before = omega (arith, c.loop-turn.invariant.left, c.loop-turn-test.true) in
    let same : IsWithin ts (suc before) c.loop-turn.least ↔ IsInExcept ts c.args.at = subst (λ z. IsWithin ts z c.loop-turn.least ↔ IsInExcept ts c.args.at) next c.loop-turn.invariant.same in
    let l = c.in-Some.ensures.lookup in
    let here : slice_get ts before ≡ Some c.in-Some.t.now = slice_get-get_or ts before c.in-Some.t.now l.3.0 ∙ ap Some (sym l.1) in
    let step = within_before ts before c.loop-turn.least c.in-Some.t.now here (λ e. let x = c.is_except_itself.ensures.1 e in search rules) in
    record {
      same = rw c.open_before-least.ensures.value (λ h. same.0 (step.1 h), λ h. step.0 (same.1 h));
      left = omega (arith, c.loop-turn.invariant.left, c.loop-turn-test.true);
      few = omega (arith, c.loop-turn.invariant.few, c.open_before-least.ensures.few);
    }

pub returns : goal.returns
returns c =
    let zero : c.loop-turn.place ≡ 0 = omega (arith, c.loop-turn.invariant.left, c.loop-turn-test.false) in
    let same : IsWithin c.args.tokens.now 0 c.loop-turn.least ↔ IsInExcept c.args.tokens.now c.args.at = subst (λ z. IsWithin c.args.tokens.now z c.loop-turn.least ↔ IsInExcept c.args.tokens.now c.args.at) zero c.loop-turn.invariant.same in
    (λ t. search rules, λ h. absurd (within_none c.args.tokens.now c.loop-turn.least (same.1 h)))
