use Rattle.std.proofs.Common.{◌+◌, ◌≤◌, length}
use Rattle.tla_grammar.specs.OperatorParameters.{Underscores}
use Rattle.tla_grammar.proofs.tokens.named_parameter_end.Given as goal

abbrev pub invariant-loop-turn : goal.invariant-loop-turn
invariant-loop-turn l = record { listed : Underscores l.tokens l._turn (l.from + 2) l.at; within : l.at ≤ length l.tokens }
