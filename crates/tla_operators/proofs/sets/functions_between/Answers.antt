use Rattle.tla_value.specs.Sets.{set_of}
use Rattle.tla_value.specs.Choices.{functions_of}
use Rattle.tla_operators.proofs.Known.{on_sets_known}
use Rattle.tla_operators.proofs.sets.functions_between.Goals as goal

pub returns-in-Set-Set : goal.returns-in-Set-Set
returns-in-Set-Set c =
    let s = c.in-Set-Set in
    rw (on_sets_known c.args.place.now functions_of c.args.domain.now c.args.range.now s.domain s.range s.is-0 s.is-1) (c.made_set.ensures (set_of (functions_of s.domain s.range)) c.function_set.ensures)
