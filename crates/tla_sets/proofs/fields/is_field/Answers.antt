use Rattle.std.proofs.Common.{sym}
use Rattle.tla_sets.proofs.Names.{no_name}
use Rattle.tla_sets.proofs.fields.is_field.Goals as goal

pub returns-in_default : goal.returns-in_default
returns-in_default c = sym (no_name c.args.argument.now c.args.fields.now c.in_default.not-Text)
