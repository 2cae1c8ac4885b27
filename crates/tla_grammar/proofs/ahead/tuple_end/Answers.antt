use Rattle.std.proofs.Common.{◌≡◌, ◌+◌, ◌-◌, true, false, arith, sym, ◌∙◌, length}
use Rattle.tla_lex.specs.declared.token.Kind.TheVariants as k
use Rattle.tla_grammar.specs.Tokens.{seen}
use Rattle.tla_grammar.specs.Kinds.{kind_at}
use Rattle.tla_grammar.proofs.TupleEnds.{tuple_last, tuple_open, tuple_none}
use Rattle.tla_grammar.proofs.ahead.tuple_end.Goals as goal

pub returns-then-not-is_kind : goal.returns-then-not-is_kind
returns-then-not-is_kind c =
    let ts = c.args.tokens.now in
    let h : length ts - c.loop-turn._turn ≡ (length ts - (c.loop-turn._turn + 1)) + 1 = omega arith in
    let p : kind_at k.Name (seen ts c.args.column c.loop-turn.at) ≡ false = cc in
    sym (sym c.loop-turn.invariant.same ∙ tuple_none ts (length ts - c.loop-turn._turn) (length ts - (c.loop-turn._turn + 1)) c.args.column c.loop-turn.at h p)

pub returns-then-is_kind : goal.returns-then-is_kind
returns-then-is_kind c =
    let ts = c.args.tokens.now in
    let h : length ts - c.loop-turn._turn ≡ (length ts - (c.loop-turn._turn + 1)) + 1 = omega arith in
    let p : kind_at k.Name (seen ts c.args.column c.loop-turn.at) ≡ true = cc in
    let q : kind_at k.Comma (seen ts c.args.column (c.loop-turn.at + 1)) ≡ false = cc in
    let r : kind_at k.RightTuple (seen ts c.args.column (c.loop-turn.at + 1)) ≡ true = cc in
    sym (sym c.loop-turn.invariant.same ∙ tuple_last ts (length ts - c.loop-turn._turn) (length ts - (c.loop-turn._turn + 1)) c.args.column c.loop-turn.at h p q r)

pub returns-else-is_kind : goal.returns-else-is_kind
returns-else-is_kind c =
    let ts = c.args.tokens.now in
    let h : length ts - c.loop-turn._turn ≡ (length ts - (c.loop-turn._turn + 1)) + 1 = omega arith in
    let p : kind_at k.Name (seen ts c.args.column c.loop-turn.at) ≡ true = cc in
    let q : kind_at k.Comma (seen ts c.args.column (c.loop-turn.at + 1)) ≡ false = cc in
    let r : kind_at k.RightTuple (seen ts c.args.column (c.loop-turn.at + 1)) ≡ false = cc in
    sym (sym c.loop-turn.invariant.same ∙ tuple_open ts (length ts - c.loop-turn._turn) (length ts - (c.loop-turn._turn + 1)) c.args.column c.loop-turn.at h p q r)
