use Rattle.std.proofs.Common.{◌∙◌}
use Rattle.tla_expand.proofs.Vectors.{expr_record}
use Rattle.tla_expand.proofs.builders.record.Goals as goal

pub returns-clause-ok : goal.returns-clause-ok
returns-clause-ok c = c.in_ok-record_of.ensures ∙ expr_record c.args.place c.args.fields
