use Rattle.std.proofs.Common.{◌≡◌, vec_len}
use Rattle.tla_value.proofs.pool.falses.Given as goal

abbrev pub invariant-loop-index : goal.invariant-loop-index
invariant-loop-index l = vec_len l.values ≡ l._index
