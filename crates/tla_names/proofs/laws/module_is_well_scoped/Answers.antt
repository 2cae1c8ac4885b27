use Rattle.tla_names.proofs.WellScopedModule.{well_scoped_module}
use Rattle.tla_names.proofs.laws.module_is_well_scoped.Goals as goal

pub returns : goal.returns
returns c = λ us. well_scoped_module us
