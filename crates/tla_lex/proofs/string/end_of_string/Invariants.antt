use Rattle.std.proofs.Common.{◌≡◌, ◌+◌, length, drop, false}
use Rattle.tla_lex.specs.StringLoops.{end_from}
use Rattle.tla_lex.proofs.string.end_of_string.Given as goal

abbrev pub invariant-loop-left : goal.invariant-loop-left
invariant-loop-left l = record {
  same : end_from l.escaped l.at l.left ≡ end_from false 1 (drop 1 l.text);
  at : l.at + length l.left ≡ length l.text;
}

abbrev pub decreases-loop-left : goal.decreases-loop-left
decreases-loop-left l = length l.left
