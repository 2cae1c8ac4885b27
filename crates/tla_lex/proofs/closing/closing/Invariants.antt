use Rattle.std.proofs.Common.{◌≡◌, ◌≤◌, ◌+◌, length, drop}
use Rattle.tla_lex.specs.Module.{closing_from, closing}
use Rattle.tla_lex.specs.Private.RegionSize.{region_depth}
use Rattle.tla_lex.proofs.closing.closing.Given as goal

abbrev pub invariant-loop-left : goal.invariant-loop-left
invariant-loop-left l = record {
  same : closing_from l.region l.at l.left ≡ closing l.text l.from;
  at : l.at + length l.left ≡ length l.text;
  from : l.from ≤ l.at;
  depth : region_depth l.region ≤ l.at;
  left : l.left ≡ drop l.at l.text;
}

abbrev pub decreases-loop-left : goal.decreases-loop-left
decreases-loop-left l = length l.left
