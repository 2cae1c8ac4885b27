use Rattle.std.proofs.Common.{arith, ◌≡◌, ◌∙◌, ap, inr, pos, negsuc}
use Rattle.std.proofs.lemmas.Int.{ints}
use Rattle.std.specs.Int.{int_pow}
use Rattle.tla_core.specs.Kinds.{number}
use Rattle.tla_operators.proofs.Numbers.{zero_number, one_number, minus_one_even, minus_one_odd, high_number}
use Rattle.tla_operators.proofs.arithmetic.high_power.Goals as goal

pub returns-then-base-eq0 : goal.returns-then-base-eq0
returns-then-base-eq0 c =
    let e : c.args.base ≡ pos 0 = omega (arith, ints) in
    ap (λ z. number c.args.place.now (int_pow z c.args.exponent)) e ∙ zero_number c.args.place.now c.args.exponent c.requires

pub returns-then-base-eq1 : goal.returns-then-base-eq1
returns-then-base-eq1 c =
    let e : c.args.base ≡ pos 1 = omega (arith, ints) in
    ap (λ z. number c.args.place.now (int_pow z c.args.exponent)) e ∙ one_number c.args.place.now c.args.exponent

pub returns-then-base-neminus1 : goal.returns-then-base-neminus1
returns-then-base-neminus1 c =
    inr (rw c.fault_at.ensures (high_number c.args.place.now c.args.base c.args.exponent c.requires (λ e. omega (arith, ints)) (λ e. omega (arith, ints)) (λ e. omega (arith, ints))))

pub returns-then-exponent-eq0 : goal.returns-then-exponent-eq0
returns-then-exponent-eq0 c =
    let e : c.args.base ≡ negsuc 0 = omega (arith, ints) in
    ap (λ z. number c.args.place.now (int_pow z c.args.exponent)) e ∙ minus_one_even c.args.place.now c.args.exponent c.if-exponent-eq0.true

pub returns-else-exponent-eq0 : goal.returns-else-exponent-eq0
returns-else-exponent-eq0 c =
    let e : c.args.base ≡ negsuc 0 = omega (arith, ints) in
    ap (λ z. number c.args.place.now (int_pow z c.args.exponent)) e ∙ minus_one_odd c.args.place.now c.args.exponent c.if-exponent-eq0.false
