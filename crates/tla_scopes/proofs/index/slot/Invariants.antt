use Rattle.std.proofs.Common.{◌≡◌, ◌+◌, ℕ}
use Rattle.tla_scopes.specs.Private.Index.{apart, slot_of}
use Rattle.tla_scopes.proofs.index.slot.Given as goal

abbrev pub invariant-loop-bit : goal.invariant-loop-bit
invariant-loop-bit l = record {
  left : (n : ℕ) → l.bit + n ≡ 16 → slot_of l.first l.second ≡ l.bit + apart n l.one l.other;
}
