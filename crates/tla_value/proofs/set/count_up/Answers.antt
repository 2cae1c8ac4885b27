use Rattle.std.proofs.Common.{◌≡◌, pos, ◌+ℤ◌, to_z, of_z, w64, add-one, arith}
use Rattle.std.proofs.lemmas.Int.{ints}
use Rattle.tla_value.proofs.Ranges.{pushed}
use Rattle.tla_value.proofs.set.count_up.Goals as goal

pub loop-offset-preserved : goal.loop-offset-preserved
loop-offset-preserved c =
    let low = to_z w64 (of_z w64 c.args.low) in
    let next : to_z w64 (of_z w64 (low +ℤ to_z w64 c.loop-offset.offset)) ≡ low +ℤ pos c.loop-offset.offset = omega (arith, ints) in
    rw add-one (pushed _ _ _ _ _ c.in_ok-push.ensures.items next c.loop-offset.invariant)
