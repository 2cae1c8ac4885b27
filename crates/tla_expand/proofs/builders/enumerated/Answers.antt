use Rattle.std.proofs.Common.{◌∙◌}
use Rattle.tla_expand.proofs.Vectors.{expr_enumerated}
use Rattle.tla_expand.proofs.builders.enumerated.Goals as goal

pub returns-clause-ok : goal.returns-clause-ok
returns-clause-ok c = c.in_ok-set_of.ensures ∙ expr_enumerated c.args.place c.args.parts
