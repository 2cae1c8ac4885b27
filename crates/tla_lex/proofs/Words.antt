-- Numbers, one digit further.
use Rattle.std.proofs.Common.{◌≡◌, ℕ, ◌+◌, ◌-◌, ◌*◌, ◌^◌, ◌≤◌, List, [], ◌∷◌, None, refl, arith}
use Rattle.std.proofs.lemmas.Bool.{le-ltb}
use Rattle.tla_lex.specs.Words.{value, small}

-- more digits say no less
value_rises : (n : ℕ) (xs : List ℕ) → n ≤ value n xs
value_rises n [] = omega arith
value_rises n (x ∷ xs) = let h = value_rises (n * 10 + (x - 48)) xs in omega (arith, h)

pub too_large : (n : ℕ) (xs : List ℕ) → 2 ^ 63 ≤ n → small (value n xs) ≡ None
too_large n xs h = let r = value_rises n xs in rw (le-ltb (value n xs) (2 ^ 63) (omega (arith, h, r))) refl
