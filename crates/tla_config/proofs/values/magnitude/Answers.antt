use Rattle.std.proofs.Common.{◌<◌, length, arith}
use Rattle.tla_config.proofs.Numbers.{value_large}
use Rattle.tla_config.proofs.values.magnitude.Goals as goal

pub returns-then-longer-gt-LARGEST-clause-large : goal.returns-then-longer-gt-LARGEST-clause-large
returns-then-longer-gt-LARGEST-clause-large c =
    let lt : c.loop-b.b-index < length c.args.digits.now = omega arith in
    value_large c.args.digits.now c.loop-b.n c.loop-b.b-index 9223372036854775808 lt c.loop-b.invariant.same (omega arith)
