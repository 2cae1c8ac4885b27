use Rattle.std.proofs.Common.{arith, sym}
use Rattle.std.proofs.lemmas.Int.{ints}
use Rattle.tla_sets.proofs.Ranges.{number_low, number_high, number_in}
use Rattle.tla_sets.proofs.asked.is_between.Goals as goal

pub returns-then-number-low : goal.returns-then-number-low
returns-then-number-low c = sym (number_low c.args.value.now c.in-Int.number c.args.low c.args.high c.in-Int.is (omega (arith, ints)))

pub returns-then-high-number : goal.returns-then-high-number
returns-then-high-number c = sym (number_high c.args.value.now c.in-Int.number c.args.low c.args.high c.in-Int.is (omega (arith, ints)))

pub returns-else-high-number : goal.returns-else-high-number
returns-else-high-number c = sym (number_in c.args.value.now c.in-Int.number c.args.low c.args.high c.in-Int.is (omega (arith, ints)) (omega (arith, ints)))
