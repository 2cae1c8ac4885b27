use Rattle.std.proofs.Common.{◌≡◌, ◌+◌, ◌∙◌, true, slice_get, sym, arith}
use Rattle.std.proofs.lemmas.Option.{slice_get_within}
use Rattle.tla_lex.specs.declared.token.Kind.TheVariants as k
use Rattle.tla_config.specs.Private.Fronts.{kind_at}
use Rattle.tla_config.proofs.Fronts.{kind_found}
use Rattle.tla_config.proofs.LiteralEnds.{empty_ends, empty_closes}
use Rattle.tla_config.proofs.written.part_end.Goals as goal

pub returns-then-is_kind-clause-found : goal.returns-then-is_kind-clause-found
returns-then-is_kind-clause-found c = empty_ends c.args.text.now c.args.tokens.now c.args.at c.requires (sym c.is_kind.ensures.value ∙ c.if-is_kind.true)

pub returns-then-is_kind-clause-within : goal.returns-then-is_kind-clause-within
returns-then-is_kind-clause-within c =
    let ts = c.args.tokens.now in
    let close = empty_closes c.args.text.now ts c.args.at c.requires (sym c.is_kind.ensures.value ∙ c.if-is_kind.true) in
    let last = slice_get_within ts (c.args.at + 1) close.0 close.1 in
    (omega arith, omega (arith, last))
