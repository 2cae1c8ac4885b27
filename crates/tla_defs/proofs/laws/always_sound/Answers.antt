use Rattle.tla_defs.proofs.Sound.{sound}
use Rattle.tla_defs.proofs.laws.always_sound.Goals as goal

pub returns : goal.returns
returns c = λ us cs m h. sound us cs m h
