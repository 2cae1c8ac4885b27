use Rattle.std.proofs.Common.{Ok, refl}
use Rattle.tla_quick.proofs.domains.gathered_set.Goals as goal

pub returns : goal.returns
returns c ts h = c.in_ok-into_set.ensures (Ok ts) (ts, refl, h)
