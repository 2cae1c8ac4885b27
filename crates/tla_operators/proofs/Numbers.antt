-- Numbers within 64 bits, and outside.
use Rattle.std.proofs.Common.{◌≡◌, ℕ, suc, zero, ◌≤◌, ◌^◌, ℤ, pos, negsuc, neg_ℤ, Ok, Bool, true, false, cond, FitsSigned, arith, refl, ap, ◌∙◌, ◌%◌, ◌*◌, ◌==◌, eq-eqb, ne_eqb}
use Rattle.std.proofs.lemmas.Bool.Decides.{nat_tests}
use Rattle.std.proofs.lemmas.Int.{ints}
use Rattle.std.specs.Int.{w64, int_pow}
use Rattle.std.proofs.Math.Nat.{pow-le-pow_left, pow-le-pow_right, pow-suc}
use Rattle.tla_value.specs.Tree.{int}
use Rattle.tla_core.specs.declared.fault.Place.{Place}
use Rattle.tla_core.specs.declared.fault.FaultCode.TheVariants.{Overflow}
use Rattle.tla_core.specs.Fault.{fault}
use Rattle.tla_core.specs.Kinds.{number, is_in_range}

-- ---- 64 bits
up_in : (n : ℕ) → n ≤ 9223372036854775807 → is_in_range (pos n) ≡ true
up_in n h = grind (arith, nat_tests)

down_in : (n : ℕ) → n ≤ 9223372036854775807 → is_in_range (negsuc n) ≡ true
down_in n h = grind (arith, nat_tests)

up_bound : (n : ℕ) → is_in_range (pos n) ≡ true → n ≤ 9223372036854775807
up_bound n h = grind (arith, nat_tests)

down_bound : (n : ℕ) → is_in_range (negsuc n) ≡ true → n ≤ 9223372036854775807
down_bound n h = grind (arith, nat_tests)

pub in_range_from_fits : (z : ℤ) → FitsSigned w64 z → is_in_range z ≡ true
in_range_from_fits (pos n) h = up_in n (omega (arith, ints))
in_range_from_fits (negsuc n) h = down_in n (omega (arith, ints))

pub fits_from_in_range : (z : ℤ) → is_in_range z ≡ true → FitsSigned w64 z
fits_from_in_range (pos n) h = let k = up_bound n h in omega (arith, ints)
fits_from_in_range (negsuc n) h = let k = down_bound n h in omega (arith, ints)

pub number_in_range : (p : Place) (z : ℤ) → FitsSigned w64 z → number p z ≡ Ok (int z)
number_in_range p z h = ap (λ b. cond b (Ok (int z)) (fault Overflow p)) (in_range_from_fits z h)

pub number_outside : (p : Place) (z : ℤ) → (FitsSigned w64 z → ⊥) → number p z ≡ fault Overflow p
number_outside p z h = go (is_in_range z) refl
  where
    go : (b : Bool) → is_in_range z ≡ b → number p z ≡ fault Overflow p
    go true e = absurd (h (fits_from_in_range z e))
    go false e = ap (λ b. cond b (Ok (int z)) (fault Overflow p)) e

-- ---- high powers
zero_power : (n : ℕ) → 64 ≤ n → 0 ^ n ≡ 0
zero_power zero h = absurd (omega arith)
zero_power (suc n) h = rw pow-suc (omega arith)

one_power : (n : ℕ) → 1 ^ n ≡ 1
one_power zero = refl
one_power (suc n) = let e = one_power n in pow-suc 1 n ∙ ap (λ k. k * 1) e

large_power : (m n : ℕ) → 2 ≤ m → 64 ≤ n → 18446744073709551616 ≤ m ^ n
large_power m n h k =
    let low : 2 ^ 64 ≤ 2 ^ n = pow-le-pow_right (omega arith) k in
    let high : 2 ^ n ≤ m ^ n = pow-le-pow_left h n in
    omega (arith, low, high)

-- a number this far from 0 is outside, whatever its sign
too_far : (k : ℕ) (b : Bool) → 18446744073709551616 ≤ k → FitsSigned w64 (cond b (pos k) (neg_ℤ (pos k))) → ⊥
too_far zero b h f = omega arith
too_far (suc k) true h f = omega (arith, ints)
too_far (suc k) false h f = omega (arith, ints)

pub zero_number : (p : Place) (n : ℕ) → 64 ≤ n → number p (int_pow (pos 0) n) ≡ Ok (int (pos 0))
zero_number p n h = rw (zero_power n h)

pub one_number : (p : Place) (n : ℕ) → number p (int_pow (pos 1) n) ≡ Ok (int (pos 1))
one_number p n = rw (one_power n)

signed_one : (p : Place) (b : Bool) (k : ℕ) → k ≡ 1 → number p (cond b (pos k) (neg_ℤ (pos k))) ≡ Ok (int (cond b (pos 1) (negsuc 0)))
signed_one p true k e = rw e
signed_one p false k e = rw e

pub minus_one_even : (p : Place) (n : ℕ) → n % 2 ≡ 0 → number p (int_pow (negsuc 0) n) ≡ Ok (int (pos 1))
minus_one_even p n h = signed_one p (n % 2 == 0) (1 ^ n) (one_power n) ∙ ap (λ b. Ok (int (cond b (pos 1) (negsuc 0)))) (eq-eqb (n % 2) 0 h)

pub minus_one_odd : (p : Place) (n : ℕ) → (n % 2 ≡ 0 → ⊥) → number p (int_pow (negsuc 0) n) ≡ Ok (int (negsuc 0))
minus_one_odd p n h = signed_one p (n % 2 == 0) (1 ^ n) (one_power n) ∙ ap (λ b. Ok (int (cond b (pos 1) (negsuc 0)))) (ne_eqb (n % 2) 0 h)

pub high_number : (p : Place) (z : ℤ) (n : ℕ) → 64 ≤ n → (z ≡ pos 0 → ⊥) → (z ≡ pos 1 → ⊥) → (z ≡ negsuc 0 → ⊥) → number p (int_pow z n) ≡ fault Overflow p
high_number p (pos a) n h not-0 not-1 minus = number_outside p _ (too_far (a ^ n) true (large_power a n (two_up a not-0 not-1) h))
  where
    two_up : (a : ℕ) → (pos a ≡ pos 0 → ⊥) → (pos a ≡ pos 1 → ⊥) → 2 ≤ a
    two_up zero f g = absurd (f refl)
    two_up (suc zero) f g = absurd (g refl)
    two_up (suc (suc a)) f g = omega arith
high_number p (negsuc a) n h not-0 not-1 minus = number_outside p _ (too_far (suc a ^ n) (n % 2 == 0) (large_power (suc a) n (two_down a minus) h))
  where
    two_down : (a : ℕ) → (negsuc a ≡ negsuc 0 → ⊥) → 2 ≤ suc a
    two_down zero f = absurd (f refl)
    two_down (suc a) f = omega arith
