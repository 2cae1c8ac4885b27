use Rattle.std.proofs.Common.{◌≡◌, ◌-◌, ◌+◌, ◌≤◌, length}
use Rattle.tla_parse.specs.Private.UnitsReading.{blanks}
use Rattle.tla_parse.proofs.units.blanks.Given as goal

abbrev pub invariant-loop-turn : goal.invariant-loop-turn
invariant-loop-turn l = record {
  same : blanks l.tokens (length l.tokens - l._turn) l.count l.at ≡ blanks l.tokens (length l.tokens) 1 l.fn.from;
  counted : l.count ≡ 1 + l._turn;
  within : l.at ≤ length l.tokens;
}
