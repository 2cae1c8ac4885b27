use Rattle.std.proofs.Common.{◌≡◌, ◌-◌, ◌+◌, ◌↔◌, suc, true, sym, subst, arith}
use Rattle.std.specs.List.{slice_get}
use Rattle.tla_lex.specs.declared.token.Kind.TheVariants as k
use Rattle.tla_config.specs.Private.Fronts.{kind_at}
use Rattle.tla_config.specs.Private.LiteralEnds.{Completes}
use Rattle.tla_config.proofs.Fronts.{kind_found}
use Rattle.tla_config.proofs.LiteralEnds.{completes_close}
use Rattle.tla_config.proofs.written.closed.Goals as goal

pub loop-deep-preserved : goal.loop-deep-preserved
loop-deep-preserved c =
    let ts = c.args.tokens.now in
    let at = c.loop-deep.at in
    let one = c.loop-deep.deep - 1 in
    let some : c.loop-deep.deep ≡ suc one = omega arith in
    let brace : kind_at k.RightBrace (slice_get ts at) ≡ true = cc in
    record {
      same = λ text to.
          let step = completes_close text ts one at to (kind_found k.RightBrace (slice_get ts at) brace) in
          let kept = c.loop-deep.invariant.same text to in
          (λ h. kept.0 (subst (λ n. Completes text ts n at to) (sym some) (step.0 h)), λ h. step.1 (subst (λ n. Completes text ts n at to) some (kept.1 h)));
      onward = omega arith;
      within = omega arith;
      fewer = omega arith;
    }
