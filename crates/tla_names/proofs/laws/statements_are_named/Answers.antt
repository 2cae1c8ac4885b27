use Rattle.tla_names.proofs.WellScopedModule.{named_statements}
use Rattle.tla_names.proofs.laws.statements_are_named.Goals as goal

pub returns : goal.returns
returns c = λ σ cs. named_statements σ cs
