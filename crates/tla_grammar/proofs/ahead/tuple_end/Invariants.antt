use Rattle.std.proofs.Common.{◌≡◌, ◌-◌, ◌≤◌, length}
use Rattle.tla_grammar.specs.Ahead.{tuple_end}
use Rattle.tla_grammar.proofs.ahead.tuple_end.Given as goal

abbrev pub invariant-loop-turn : goal.invariant-loop-turn
invariant-loop-turn l = record {
  same : tuple_end l.tokens l.column (length l.tokens - l._turn) l.at ≡ tuple_end l.tokens l.column (length l.tokens) l.fn.from;
  within : l.at ≤ length l.tokens;
}
