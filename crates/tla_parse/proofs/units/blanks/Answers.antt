use Rattle.std.proofs.Common.{◌≡◌, ◌+◌, ◌-◌, ◌&&◌, ℕ, [], true, false, arith, refl, sym, ap, ◌∙◌, length}
use Rattle.tla_lex.specs.declared.token.Kind.TheVariants as k
use Rattle.tla_grammar.specs.Tokens.{seen}
use Rattle.tla_grammar.specs.Kinds.{kind_at}
use Rattle.tla_parse.proofs.UnitsSteps.{blanks_last}
use Rattle.tla_parse.proofs.units.blanks.Goals.{then-is_kind, else-is_kind}
use Rattle.tla_parse.proofs.units.blanks.Goals as goal

pub returns-then-not-goes_on-clause-count : goal.returns-then-not-goes_on-clause-count
returns-then-not-goes_on-clause-count c =
    let h : length c.args.tokens.now - c.loop-turn._turn ≡ (length c.args.tokens.now - (c.loop-turn._turn + 1)) + 1 = omega arith in
    let q : (kind_at k.Comma (seen c.args.tokens.now 0 c.loop-turn.at) && kind_at k.Underscore (seen c.args.tokens.now 0 (c.loop-turn.at + 1))) ≡ false = elim c.if-is_kind.branch [
      | then-is_kind w ↦ (let a : kind_at k.Comma (seen c.args.tokens.now 0 c.loop-turn.at) ≡ true = cc in let b : kind_at k.Underscore (seen c.args.tokens.now 0 (c.loop-turn.at + 1)) ≡ false = cc in rw (a, b) refl)
      | else-is_kind w ↦ (let a : kind_at k.Comma (seen c.args.tokens.now 0 c.loop-turn.at) ≡ false = cc in rw a refl)
    ] in
    let n = blanks_last [] c.args.tokens.now (length c.args.tokens.now - c.loop-turn._turn) (length c.args.tokens.now - (c.loop-turn._turn + 1)) c.loop-turn.count c.loop-turn.at h q in
    ap (λ (v : ℕ × ℕ). v.0) (sym n ∙ c.loop-turn.invariant.same)

pub returns-then-not-goes_on-clause-end : goal.returns-then-not-goes_on-clause-end
returns-then-not-goes_on-clause-end c =
    let h : length c.args.tokens.now - c.loop-turn._turn ≡ (length c.args.tokens.now - (c.loop-turn._turn + 1)) + 1 = omega arith in
    let q : (kind_at k.Comma (seen c.args.tokens.now 0 c.loop-turn.at) && kind_at k.Underscore (seen c.args.tokens.now 0 (c.loop-turn.at + 1))) ≡ false = elim c.if-is_kind.branch [
      | then-is_kind w ↦ (let a : kind_at k.Comma (seen c.args.tokens.now 0 c.loop-turn.at) ≡ true = cc in let b : kind_at k.Underscore (seen c.args.tokens.now 0 (c.loop-turn.at + 1)) ≡ false = cc in rw (a, b) refl)
      | else-is_kind w ↦ (let a : kind_at k.Comma (seen c.args.tokens.now 0 c.loop-turn.at) ≡ false = cc in rw a refl)
    ] in
    let n = blanks_last [] c.args.tokens.now (length c.args.tokens.now - c.loop-turn._turn) (length c.args.tokens.now - (c.loop-turn._turn + 1)) c.loop-turn.count c.loop-turn.at h q in
    ap (λ (v : ℕ × ℕ). v.1) (sym n ∙ c.loop-turn.invariant.same)
