-- What names the behaviour, in memory.
use Rattle.std.specs.Prelude.{◌≡◌, Result, Ok, Err}
use Rattle.tla_lex.specs.declared.token.Place.{Place}
use Rattle.tla_defs.specs.declared.behaviour.Behaviour.{Behaviour}
use Rattle.tla_defs.specs.declared.behaviour.Behaviour.TheVariants.{Named, Specified}
use Rattle.tla_defs.specs.Refused as spec

abbrev pub behaviour_of : Behaviour → spec.Behaviour
behaviour_of (Named i n) = spec.Named i.now n.now
behaviour_of (Specified p w) = spec.Specified p w.now

abbrev pub GivesBehaviour : Result Behaviour Place → Result spec.Behaviour Place → Type 0
GivesBehaviour (Ok b) r = r ≡ Ok (behaviour_of b)
GivesBehaviour (Err p) r = r ≡ Err p
