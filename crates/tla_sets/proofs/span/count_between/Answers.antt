use Rattle.std.proofs.Common.{sym, arith}
use Rattle.std.proofs.lemmas.Int.{ints}
use Rattle.tla_sets.proofs.Ranges.{range_empty, range_length}
use Rattle.tla_sets.proofs.span.count_between.Goals as goal

pub returns-then-high-low : goal.returns-then-high-low
returns-then-high-low c = sym (range_empty c.args.low c.args.high (omega (arith, ints)))

pub returns : goal.returns
returns c = omega (arith, ints, range_length c.args.low c.args.high (omega (arith, ints)))
