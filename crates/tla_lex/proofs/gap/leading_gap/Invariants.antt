use Rattle.std.proofs.Common.{◌≡◌, ◌≤◌, ◌+◌, length}
use Rattle.tla_lex.specs.Gap.{skip, gap}
use Rattle.tla_lex.specs.Private.GapSize.{depth}
use Rattle.tla_lex.proofs.gap.leading_gap.Given as goal

abbrev pub invariant-loop-left : goal.invariant-loop-left
invariant-loop-left l = record {
  same : skip l.mode l.opening l.at l.left ≡ gap l.text;
  at : l.at + length l.left ≡ length l.text;
  depth : depth l.mode ≤ l.at;
  opening : l.opening ≤ l.at;
}

abbrev pub decreases-loop-left : goal.decreases-loop-left
decreases-loop-left l = length l.left
