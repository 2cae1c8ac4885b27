use Rattle.std.proofs.Common.{◌∙◌, sym}
use Rattle.tla_config.proofs.LiteralEnds.{minus_ends}
use Rattle.tla_config.proofs.written.atom_end.Goals as goal

pub returns-in-Some-clause-found : goal.returns-in-Some-clause-found
returns-in-Some-clause-found c =
    minus_ends c.args.text.now c.args.tokens.now c.args.at c.in-Some.field-0 (sym c.is_kind.ensures.value ∙ c.if-is_kind.true) (sym c.digits_at.ensures.value ∙ c.in-Some.is)
