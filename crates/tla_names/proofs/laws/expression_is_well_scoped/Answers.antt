use Rattle.tla_names.proofs.WellScoped.{well_scoped}
use Rattle.tla_names.proofs.laws.expression_is_well_scoped.Goals as goal

pub returns : goal.returns
returns c = λ ms σ e. well_scoped ms σ e
