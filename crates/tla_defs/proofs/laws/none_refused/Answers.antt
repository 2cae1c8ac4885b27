use Rattle.tla_defs.proofs.Nones.{no_refusal}
use Rattle.tla_defs.proofs.laws.none_refused.Goals as goal

pub returns : goal.returns
returns c = λ us config m h. no_refusal us config m h
