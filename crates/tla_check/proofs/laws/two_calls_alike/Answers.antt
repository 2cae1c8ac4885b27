use Rattle.tla_check.proofs.Alike.{come-out-alike}
use Rattle.tla_check.proofs.laws.two_calls_alike.Goals as goal

pub returns : goal.returns
returns c text config = come-out-alike text config
