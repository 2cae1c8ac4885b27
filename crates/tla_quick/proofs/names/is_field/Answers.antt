use Rattle.std.proofs.Common.{sym}
use Rattle.tla_quick.proofs.FieldNames.{no_name}
use Rattle.tla_quick.proofs.names.is_field.Goals as goal

pub returns-in_default : goal.returns-in_default
returns-in_default c = sym (no_name c.args.argument.now c.args.fields.now c.in_default.not-Text)
