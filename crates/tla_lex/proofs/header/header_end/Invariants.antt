use Rattle.std.proofs.Common.{◌≡◌, ◌≤◌, ◌+◌, length}
use Rattle.tla_lex.specs.Module.{header_from, header_end}
use Rattle.tla_lex.proofs.header.header_end.Given as goal

abbrev pub invariant-loop-left : goal.invariant-loop-left
invariant-loop-left l = record {
  same : header_from l.dashes l.at l.left ≡ header_end l.text;
  at : l.at + length l.left ≡ length l.text;
  dashes : l.dashes ≤ l.at;
}

abbrev pub decreases-loop-left : goal.decreases-loop-left
decreases-loop-left l = length l.left
