use Rattle.std.proofs.Common.{◌≡◌, ◌-◌, ◌≤◌, length, []}
use Rattle.tla_expressions.specs.ReadingLists.{names}
use Rattle.tla_expressions.proofs.names.names.Given as goal

abbrev pub invariant-loop-turn : goal.invariant-loop-turn
invariant-loop-turn l = record {
  same : names l.text l.tokens (length l.tokens - l._turn) l.names.items l.column l.at ≡ names l.text l.tokens (length l.tokens) [] l.column l.fn.from;
  within : l.at ≤ length l.tokens;
}
