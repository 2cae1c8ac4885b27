-- Numbers, one digit further.
use Rattle.std.proofs.Common.{◌≡◌, ℕ, ◌+◌, ◌-◌, ◌*◌, ◌<◌, ◌≤◌, List, [], ◌∷◌, drop, length, get_or, sym, ap, ◌∙◌, arith, drop-cons, add-one, refl}
use Rattle.tla_lex.specs.Words.{value}

-- more digits say no less
value_rises : (n : ℕ) (xs : List ℕ) → n ≤ value n xs
value_rises n [] = omega arith
value_rises n (x ∷ xs) = let h = value_rises (n * 10 + (x - 48)) xs in omega (arith, h)

-- one digit more
pub value_next : (digits : List ℕ) (n i : ℕ) → i < length digits → value n (drop i digits) ≡ value (n * 10 + (get_or digits i 0 - 48)) (drop (i + 1) digits)
value_next digits n i h = ap (λ xs. value n xs) (drop-cons digits i 0 h) ∙ rw (← add-one) refl

pub value_large : (digits : List ℕ) (n i most : ℕ) → i < length digits → value n (drop i digits) ≡ value 0 digits → most < n * 10 + (get_or digits i 0 - 48) → most < value 0 digits
value_large digits n i most h same big =
    let next = n * 10 + (get_or digits i 0 - 48) in
    let r = value_rises next (drop (i + 1) digits) in
    let e : value next (drop (i + 1) digits) ≡ value 0 digits = sym (value_next digits n i h) ∙ same in
    omega arith
