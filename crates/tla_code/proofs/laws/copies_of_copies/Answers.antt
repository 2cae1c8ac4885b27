use Rattle.tla_code.proofs.Twice.{raise-twice}
use Rattle.tla_code.proofs.laws.copies_of_copies.Goals as goal

pub returns : goal.returns
returns c = λ e from by f more h k. raise-twice from by f more h k e
