use Rattle.std.proofs.Common.{◌≡◌, ◌≤◌, ◌<◌, ℕ, length, get_or}
use Rattle.tla_scopes.specs.Places.{Name}
use Rattle.tla_scopes.specs.Private.Index.{found_at, hash_of, slot_of}
use Rattle.tla_scopes.specs.Listed.{listed}
use Rattle.tla_scopes.proofs.index.jumps_from.Given as goal

abbrev pub invariant-loop-bit : goal.invariant-loop-bit
invariant-loop-bit l = record {
  all : length l.jumps ≡ 17;
  within : l.at ≤ length (listed l.entries);
  below : (b : ℕ) → get_or l.jumps b 0 ≤ length (listed l.entries);
  done : (x : Name) → slot_of l.hash (hash_of x) < l.bit → found_at (listed l.entries) l.fn.scope x ≡ found_at (listed l.entries) (get_or l.jumps (slot_of l.hash (hash_of x)) 0) x;
  left : (x : Name) → l.bit ≤ slot_of l.hash (hash_of x) → found_at (listed l.entries) l.fn.scope x ≡ found_at (listed l.entries) l.at x;
}
