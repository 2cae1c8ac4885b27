use Rattle.std.proofs.Common.{◌≡◌, ◌≤◌, ◌<◌, ◌+◌, ◌↔◌, ◌∙◌, suc, length, slice_get, refl, sym, subst, arith}
use Rattle.std.proofs.lemmas.Option.{slice_get_past}
use Rattle.std.proofs.lemmas.Result.{err_from_is_err_and}
use Rattle.tla_lex.specs.declared.token.Kind.TheVariants as k
use Rattle.tla_config.specs.Private.LiteralEnds.{Begun, Completes}
use Rattle.tla_config.proofs.Fronts.{kind_found, kind_none}
use Rattle.tla_config.proofs.LiteralEnds.{begun_opens, begun_part, begun_none, completes_comma, completes_none, past_none}
use Rattle.tla_config.proofs.written.literal_end.Goals as goal

pub loop-at-preserved-then-opens_members : goal.loop-at-preserved-then-opens_members
loop-at-preserved-then-opens_members c =
    let text = c.args.text.now in
    let ts = c.args.tokens.now in
    let at = c.loop-at.at in
    let n = c.loop-at.deep in
    let one : suc n ≡ n + 1 = omega arith in
    record {
      same = λ to.
          let step = begun_opens text ts n at to (sym c.opens_members.ensures.value ∙ c.if-opens_members.true) in
          let kept = c.loop-at.invariant.same to in
          (λ g. kept.0 (step.0 (subst (λ m. Begun text ts m (at + 1) to) (sym one) g)), λ e. subst (λ m. Begun text ts m (at + 1) to) one (step.1 (kept.1 e)));
      few = let f = c.loop-at.invariant.few in omega (arith, f);
    }

pub returns-in_err-end-clause-none : goal.returns-in_err-end-clause-none
returns-in_err-end-clause-none c =
    let e = err_from_is_err_and c.from_residual.result c.from_residual.ensures.1 in
    rw e.1 (λ l to x. begun_none c.args.text.now c.args.tokens.now c.loop-at.deep c.loop-at.at to c.in_err-end.ensures.none ((c.loop-at.invariant.same to).1 (l, x)))

pub returns-then-after-eq0-clause-found : goal.returns-then-after-eq0-clause-found
returns-then-after-eq0-clause-found c =
    let text = c.args.text.now in
    let ts = c.args.tokens.now in
    let to = c.closed-after.result.at in
    let last : Completes text ts c.closed-after.result.deep to to = subst (λ m. Completes text ts m to to) (sym c.if-after-eq0.true) refl in
    (c.loop-at.invariant.same to).0 ((begun_part text ts c.loop-at.deep c.loop-at.at c.in_ok-end.end to c.in_ok-end.ensures.found).0 ((c.closed-after.ensures.same text to).0 last))

pub returns-then-not-is_kind-clause-none : goal.returns-then-not-is_kind-clause-none
returns-then-not-is_kind-clause-none c l to x =
    let text = c.args.text.now in
    let ts = c.args.tokens.now in
    let at = c.closed-after.result.at in
    let some : 0 < c.closed-after.result.deep = let f = c.if-after-eq0.false in omega (arith, f) in
    let begun = (c.loop-at.invariant.same to).1 (l, x) in
    let behind = (begun_part text ts c.loop-at.deep c.loop-at.at c.in_ok-end.end to c.in_ok-end.ensures.found).1 begun in
    completes_none text ts c.closed-after.result.deep at to some (kind_none text ts k.Comma at refl (sym c.is_kind.ensures.value ∙ c.if-not-is_kind.true))
    (kind_none text ts k.RightBrace at refl (c.closed-after.ensures.stops some)) ((c.closed-after.ensures.same text to).1 behind)

pub loop-at-preserved : goal.loop-at-preserved
loop-at-preserved c =
    let text = c.args.text.now in
    let ts = c.args.tokens.now in
    let at = c.closed-after.result.at in
    let n = c.closed-after.result.deep in
    let some : 0 < n = let f = c.if-after-eq0.false in omega (arith, f) in
    let comma = kind_found k.Comma (slice_get ts at) (sym c.is_kind.ensures.value ∙ c.if-not-is_kind.false) in
    record {
      same = λ to.
          let kept = c.loop-at.invariant.same to in
          let part = begun_part text ts c.loop-at.deep c.loop-at.at c.in_ok-end.end to c.in_ok-end.ensures.found in
          let shut = c.closed-after.ensures.same text to in
          let step = completes_comma text ts n at to some comma in
          (λ g. kept.0 (part.0 (shut.0 (step.0 g))), λ e. step.1 (shut.1 (part.1 (kept.1 e))));
      few =
          let f = c.loop-at.invariant.few in let g = c.closed-after.ensures.fewer in let h = c.closed-after.ensures.onward in let w = c.in_ok-end.ensures.within in
          omega (arith, f, g, h, w);
    }

pub returns-clause-none : goal.returns-clause-none
returns-clause-none c l to x =
    let ts = c.args.tokens.now in
    let gone : length ts ≤ c.loop-at.at = let f = c.loop-at-test.false in omega (arith, f) in
    begun_none c.args.text.now ts c.loop-at.deep c.loop-at.at to (past_none c.args.text.now ts c.loop-at.at (slice_get_past ts c.loop-at.at gone)) ((c.loop-at.invariant.same to).1 (l, x))
