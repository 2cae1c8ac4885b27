use Rattle.std.proofs.Common.{◌<◌, ◌≤◌, ◌-◌, arith, length, ◌∙◌}
use Rattle.tla_names.proofs.Latest.{take_take, shorter}
use Rattle.tla_names.proofs.scope.Scope.truncate.Goals as goal

pub loop-self-smaller : goal.loop-self-smaller
loop-self-smaller c =
    let xs = c.loop-self.self in
    let some : 0 < length xs = omega (arith, c.len.ensures, c.loop-self-test.true) in
    rw c.pop.ensures (shorter xs some)

pub loop-self-preserved : goal.loop-self-preserved
loop-self-preserved c =
    let xs = c.loop-self.self in
    let some : c.args.count ≤ length xs - 1 = omega (arith, c.len.ensures, c.loop-self-test.true) in
    rw c.pop.ensures (take_take c.args.count (length xs - 1) xs some ∙ c.loop-self.invariant)
