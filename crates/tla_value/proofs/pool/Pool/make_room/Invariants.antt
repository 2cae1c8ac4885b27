use Rattle.std.proofs.Common.{◌<◌, vec_len}
use Rattle.tla_value.proofs.pool.Pool.make_room.Given as goal

abbrev pub invariant-loop-value : goal.invariant-loop-value
invariant-loop-value l = 0 < vec_len l.self.values
