use Rattle.std.proofs.Common.{◌+◌, ◌≤◌, length}
use Rattle.tla_grammar.specs.Tokens.{Commas}
use Rattle.tla_grammar.proofs.binders.is_unbounded.Given as goal

abbrev pub invariant-loop-turn : goal.invariant-loop-turn
invariant-loop-turn l = record { listed : Commas l.tokens l._turn (l.from + 1) l.at; within : l.at ≤ length l.tokens }
