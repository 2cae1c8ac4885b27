use Rattle.tla_defs.proofs.GivenWorked as given
use Rattle.tla_defs.proofs.laws.cycle.Goals as goal

pub returns : goal.returns
returns c = given.cycle
