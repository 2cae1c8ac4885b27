use Rattle.std.proofs.Common.{◌≡◌, ◌+◌, true, arith, refl}
use Rattle.std.proofs.lemmas.Option.{slice_get_within}
use Rattle.tla_lex.specs.declared.token.Kind.TheVariants as k
use Rattle.tla_grammar.specs.Tokens.{seen}
use Rattle.tla_grammar.specs.Kinds.{kind_at}
use Rattle.tla_grammar.proofs.Inversion.{kind_stands, commas_more}
use Rattle.tla_grammar.proofs.binders.is_unbounded_tuple.Goals as goal

pub returns-then-is_kind : goal.returns-then-is_kind
returns-then-is_kind c colon =
    let o : kind_at k.Choose (seen c.args.tokens.now c.args.column c.args.from) ≡ true = cc in
    let b : kind_at k.LeftTuple (seen c.args.tokens.now c.args.column (c.args.from + 1)) ≡ true = cc in
    let p : kind_at k.Name (seen c.args.tokens.now c.args.column c.loop-turn.at) ≡ true = cc in
    let q : kind_at k.RightTuple (seen c.args.tokens.now c.args.column (c.loop-turn.at + 1)) ≡ true = cc in
    let r : kind_at k.Colon (seen c.args.tokens.now c.args.column (c.loop-turn.at + 2)) ≡ true = cc in (
      c.loop-turn._turn,
      c.loop-turn.at,
      kind_stands c.args.tokens.now c.args.column c.args.from k.Choose o,
      kind_stands c.args.tokens.now c.args.column (c.args.from + 1) k.LeftTuple b,
      c.loop-turn.invariant.listed,
      kind_stands c.args.tokens.now c.args.column c.loop-turn.at k.Name p,
      kind_stands c.args.tokens.now c.args.column (c.loop-turn.at + 1) k.RightTuple q,
      kind_stands c.args.tokens.now c.args.column (c.loop-turn.at + 2) k.Colon r,
    )

pub loop-turn-preserved : goal.loop-turn-preserved
loop-turn-preserved c =
    let p : kind_at k.Name (seen c.args.tokens.now c.args.column c.loop-turn.at) ≡ true = cc in
    let q : kind_at k.Comma (seen c.args.tokens.now c.args.column (c.loop-turn.at + 1)) ≡ true = cc in
    let name = kind_stands c.args.tokens.now c.args.column c.loop-turn.at k.Name p in
    let comma = kind_stands c.args.tokens.now c.args.column (c.loop-turn.at + 1) k.Comma q in
    record { listed = commas_more c.args.tokens.now c.loop-turn._turn (c.loop-turn._turn + 1) (c.args.from + 2) c.loop-turn.at refl c.loop-turn.invariant.listed name comma; within = omega (arith, slice_get_within c.args.tokens.now (c.loop-turn.at + 1) comma.0 comma.1) }
