use Rattle.std.proofs.Common.{ℕ, ◌-◌, ◌≤◌, length, drop, length-drop, arith}
use Rattle.std.proofs.Math.Seq.{take-add}
use Rattle.std.proofs.lemmas.List.{take_all}
use Rattle.counted_writer.specs.PutsLaws.{appends_then}
use Rattle.counted_writer.proofs.put.Goals as goal

pub loop-from-preserved : goal.loop-from-preserved
loop-from-preserved g c =
    let bytes = c.args.bytes.now in
    let from = c.loop-from.from in
    let within : length (drop from bytes) ≤ length bytes - from = omega (arith, length-drop {A = ℕ}) in
    let added = rw (take_all (length bytes - from) (drop from bytes) within) at c.in-Ok.ensures.bytes in
    record {
      in_range = omega (arith, c.in-Ok.ensures.bound, length-drop {A = ℕ});
      added = rw (take-add from c.in-Ok.taken bytes) (appends_then _ _ _ _ _ c.loop-from.invariant.added added);
      counted = omega (arith, c.saturating_add-written.ensures, c.loop-from.invariant.counted);
    }
