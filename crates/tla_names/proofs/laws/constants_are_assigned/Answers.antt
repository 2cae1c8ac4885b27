use Rattle.tla_names.proofs.WellScopedModule.{assigned_constants}
use Rattle.tla_names.proofs.laws.constants_are_assigned.Goals as goal

pub returns : goal.returns
returns c = λ xs us. assigned_constants xs us
