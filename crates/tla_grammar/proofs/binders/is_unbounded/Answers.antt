use Rattle.std.proofs.Common.{◌≡◌, ◌+◌, Some, true, arith, refl}
use Rattle.std.proofs.lemmas.Option.{slice_get_within}
use Rattle.tla_lex.specs.declared.token.Kind.TheVariants as k
use Rattle.tla_grammar.specs.Tokens.{seen}
use Rattle.tla_grammar.specs.Kinds.{kind_at}
use Rattle.tla_grammar.proofs.Inversion.{seen_is, kind_stands, commas_more}
use Rattle.tla_grammar.proofs.binders.is_unbounded.Goals as goal

pub returns-then-is_kind : goal.returns-then-is_kind
returns-then-is_kind c _ =
    let p : kind_at k.Name (seen c.args.tokens.now c.args.column c.loop-turn.at) ≡ true = cc in
    let q : kind_at k.Colon (seen c.args.tokens.now c.args.column (c.loop-turn.at + 1)) ≡ true = cc in
    let e : seen c.args.tokens.now c.args.column c.args.from ≡ Some c.in-Some.t = cc in
    (c.loop-turn._turn, c.loop-turn.at, c.in-Some.t, seen_is c.args.tokens.now c.args.column c.args.from c.in-Some.t e, cc, c.loop-turn.invariant.listed, kind_stands c.args.tokens.now c.args.column c.loop-turn.at k.Name p, kind_stands c.args.tokens.now c.args.column (c.loop-turn.at + 1) k.Colon q)

pub loop-turn-preserved : goal.loop-turn-preserved
loop-turn-preserved c =
    let p : kind_at k.Name (seen c.args.tokens.now c.args.column c.loop-turn.at) ≡ true = cc in
    let q : kind_at k.Comma (seen c.args.tokens.now c.args.column (c.loop-turn.at + 1)) ≡ true = cc in
    let name = kind_stands c.args.tokens.now c.args.column c.loop-turn.at k.Name p in
    let comma = kind_stands c.args.tokens.now c.args.column (c.loop-turn.at + 1) k.Comma q in
    record { listed = commas_more c.args.tokens.now c.loop-turn._turn (c.loop-turn._turn + 1) (c.args.from + 1) c.loop-turn.at refl c.loop-turn.invariant.listed name comma; within = omega (arith, slice_get_within c.args.tokens.now (c.loop-turn.at + 1) comma.0 comma.1) }
