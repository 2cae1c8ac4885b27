use Rattle.tla_value.proofs.Fed.{next_no_number, next_other}
use Rattle.tla_value.proofs.hash.is_next.Goals as goal

pub returns-in_default : goal.returns-in_default
returns-in_default c = next_no_number c.args.before.now c.args.value.now c.in_default.not-Int

pub returns-in_default-value : goal.returns-in_default-value
returns-in_default-value c = next_other c.args.before.now c.args.value.now c.in_default-value.not-Int
