use Rattle.std.proofs.Common.{◌≡◌}
use Rattle.tla_lex.specs.Places.{place_at}
use Rattle.tla_lex.proofs.place.place_after.Given as goal

abbrev pub invariant-loop-at : goal.invariant-loop-at
invariant-loop-at l = l.place ≡ place_at l.text l.at
