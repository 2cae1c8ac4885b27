use Rattle.std.proofs.Common.{arith}
use Rattle.std.proofs.lemmas.Int.{ints}
use Rattle.tla_value.proofs.Ranges.{range_is, rising-counted_up, length-counted_up}
use Rattle.tla_value.proofs.value.SetValue.range.Goals as goal

pub returns-then-steps : goal.returns-then-steps
returns-then-steps c = rw (range_is c.args.low c.args.high (omega (arith, ints)), length-counted_up) (omega (arith, ints))

pub set_from_rising-requires : goal.set_from_rising-requires
set_from_rising-requires c = rw c.in_ok-count_up.ensures.ok (rising-counted_up _ _)
