use Rattle.std.proofs.Common.{◌≡◌, ◌≤◌, ◌+◌, ◌-◌, ◌⊎◌, get_or}
use Rattle.tla_hints.specs.Lines.{feeds_before}
use Rattle.tla_hints.proofs.lines.start_of.Given as goal

abbrev pub invariant-loop-index : goal.invariant-loop-index
invariant-loop-index l = record {
  counted : feeds_before l.text l.index + l.left + 1 ≡ l.number;
  since : feeds_before l.text l.start ≡ feeds_before l.text l.index;
  within : l.start ≤ l.index;
  first : (l.start ≡ 0) ⊎ (get_or l.text (l.start - 1) 0 ≡ 10);
}
