use Rattle.std.proofs.Common.{refl}
use Rattle.tla_operators.proofs.Different.{none_gathered}
use Rattle.tla_operators.proofs.gathered.Gathered.new.Goals as goal

pub returns : goal.returns
returns c = none_gathered _ c.new.ensures.items refl refl
