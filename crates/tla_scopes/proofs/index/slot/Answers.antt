use Rattle.std.proofs.Common.{◌-◌, suc, arith}
use Rattle.tla_scopes.proofs.Hashes.{apart_here, apart_later, apart_none, slot_start}
use Rattle.tla_scopes.proofs.index.slot.Goals as goal

pub loop-bit-init : goal.loop-bit-init
loop-bit-init c = record { left = λ n e. omega (arith, slot_start n c.args.first c.args.second (omega arith)) }

pub loop-bit-preserved : goal.loop-bit-preserved
loop-bit-preserved c = record {
  left = λ n e.
      omega (arith, c.loop-bit.invariant.left (suc n) (omega arith), apart_later n c.loop-bit.one c.loop-bit.other (omega arith));
}

pub returns-then-one-other-clause-same : goal.returns-then-one-other-clause-same
returns-then-one-other-clause-same c =
    let n = 16 - c.loop-bit.bit in
    omega (arith, c.loop-bit.invariant.left n (omega arith), apart_here n c.loop-bit.one c.loop-bit.other (λ e. omega arith))

pub returns-clause-same : goal.returns-clause-same
returns-clause-same c = omega (arith, c.loop-bit.invariant.left 0 (omega arith), apart_none c.loop-bit.one c.loop-bit.other)
