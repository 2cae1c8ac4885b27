use Rattle.std.proofs.Common.{[], refl}
use Rattle.tla_quick.proofs.KeptParts.{lasts}
use Rattle.tla_quick.proofs.constants.constant_value.Goals as goal

pub returns-in-Some : goal.returns-in-Some
returns-in-Some c = lasts c.args.code.now c.in-Some.code c.requires (c.in-Some.ensures [] refl) c.value_alone.result c.value_alone.ensures

pub returns-in-None : goal.returns-in-None
returns-in-None c = lasts c.args.code.now c.args.code.now c.requires refl c.value_alone-in-None.result c.value_alone-in-None.ensures
