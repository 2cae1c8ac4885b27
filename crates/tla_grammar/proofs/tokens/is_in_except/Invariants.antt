use Rattle.std.proofs.Common.{◌≡◌, ◌+◌, ◌≤◌, ◌↔◌}
use Rattle.tla_grammar.specs.LeftOut.{IsInExcept}
use Rattle.tla_grammar.proofs.Updates.{IsWithin}
use Rattle.tla_grammar.proofs.tokens.is_in_except.Given as goal

abbrev pub invariant-loop-turn : goal.invariant-loop-turn
invariant-loop-turn l = record { same : IsWithin l.tokens l.place l.least ↔ IsInExcept l.tokens l.at; left : l.place + l._turn ≡ l.at; few : l.least ≤ l._turn }
