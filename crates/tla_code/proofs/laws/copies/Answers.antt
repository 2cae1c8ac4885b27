use Rattle.tla_code.proofs.RaisedValue.{value_raised, members_raised}
use Rattle.tla_code.proofs.laws.copies.Goals as goal

pub returns-clause-value : goal.returns-clause-value
returns-clause-value c = value_raised

pub returns-clause-members : goal.returns-clause-members
returns-clause-members c = members_raised
