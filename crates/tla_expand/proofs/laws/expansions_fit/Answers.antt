use Rattle.tla_expand.proofs.Fitting.{expand_fits}
use Rattle.tla_expand.proofs.laws.expansions_fit.Goals as goal

pub returns : goal.returns
returns c = λ t σ v d h e q. expand_fits t σ v d h e q
