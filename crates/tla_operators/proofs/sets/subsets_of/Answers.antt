use Rattle.tla_value.specs.Sets.{set_of}
use Rattle.tla_value.specs.Choices.{subsets_of}
use Rattle.tla_operators.proofs.Known.{subsets_known}
use Rattle.tla_operators.proofs.sets.subsets_of.Goals as goal

pub returns-in-Set : goal.returns-in-Set
returns-in-Set c =
    let s = c.in-Set in
    rw (subsets_known c.args.place.now c.args.set.now s.set s.is) (c.made_set.ensures (set_of (subsets_of s.set)) c.power.ensures)
