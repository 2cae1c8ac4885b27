use Rattle.std.proofs.Common.{◌≡◌, ◌-◌, ◌≤◌, length, take}
use Rattle.std.specs.Io.KnownBytes.{Appends}
use Rattle.counted_writer.specs.Puts.{count_after}
use Rattle.counted_writer.proofs.put.Given as goal

abbrev pub decreases-loop-from : goal.decreases-loop-from
decreases-loop-from g l = length l.bytes - l.from

abbrev pub invariant-loop-from : goal.invariant-loop-from
invariant-loop-from g l = record {
  in_range : l.from ≤ length l.bytes;
  added : Appends (g.W.Write.contents l.initial.out) (g.W.Write.contents l.out) (take l.from l.bytes);
  counted : l.written ≡ count_after l.initial.written l.from;
}
