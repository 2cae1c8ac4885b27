use Rattle.std.proofs.Common.{◌∙◌}
use Rattle.tla_expand.proofs.Vectors.{expr_tuple}
use Rattle.tla_expand.proofs.builders.tuple.Goals as goal

pub returns-clause-ok : goal.returns-clause-ok
returns-clause-ok c = c.in_ok-tuple_of.ensures ∙ expr_tuple c.args.place c.args.parts
