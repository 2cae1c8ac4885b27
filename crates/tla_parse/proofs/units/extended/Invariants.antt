use Rattle.std.proofs.Common.{◌≡◌, ◌-◌, ◌≤◌, length, []}
use Rattle.tla_parse.specs.Private.UnitsReading.{modules}
use Rattle.tla_grammar.specs.LeftOut.{IsExtended}
use Rattle.tla_parse.proofs.units.extended.Given as goal

abbrev pub invariant-loop-turn : goal.invariant-loop-turn
invariant-loop-turn l = record {
  same : modules l.text l.tokens (length l.tokens - l._turn) l.names.items l.at ≡ modules l.text l.tokens (length l.tokens) [] l.fn.from;
  within : l.at ≤ length l.tokens;
  listed : IsExtended l.tokens l._turn l.at;
}
