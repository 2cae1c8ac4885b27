use Rattle.tla_defs.proofs.Unique.{one_model}
use Rattle.tla_defs.proofs.laws.one_model.Goals as goal

pub returns : goal.returns
returns c = λ us cs m n a b. one_model us cs m n a b
