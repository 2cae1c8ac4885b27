use Rattle.std.proofs.Common.{◌≡◌, ◌≤◌, drop}
use Rattle.tla_grammar.specs.Ahead.{ending}
use Rattle.tla_grammar.proofs.ahead.ending.Given as goal

abbrev pub invariant-loop-at : goal.invariant-loop-at
invariant-loop-at l = record {
  same : ending l.deep l.bound (drop l.at l.tokens) ≡ ending 0 0 (drop l.fn.from l.tokens);
  deep : l.deep ≤ l.at;
  bound : l.bound ≤ l.at;
}
