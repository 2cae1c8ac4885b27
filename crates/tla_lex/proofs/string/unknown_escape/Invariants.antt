use Rattle.std.proofs.Common.{◌≡◌, ◌+◌, length, drop, false}
use Rattle.tla_lex.specs.StringLoops.{unknown_escape}
use Rattle.tla_lex.proofs.string.unknown_escape.Given as goal

abbrev pub invariant-loop-left : goal.invariant-loop-left
invariant-loop-left l = record {
  same : unknown_escape l.escaped l.at l.left ≡ unknown_escape false 1 (drop 1 l.string);
  at : l.at + length l.left ≡ length l.string;
}

abbrev pub decreases-loop-left : goal.decreases-loop-left
decreases-loop-left l = length l.left
