use Rattle.tla_code.proofs.SteadyValue.{value_steady, members_steady}
use Rattle.tla_code.proofs.laws.steady.Goals as goal

pub returns-clause-value : goal.returns-clause-value
returns-clause-value c = value_steady

pub returns-clause-members : goal.returns-clause-members
returns-clause-members c = members_steady
