-- Slices that are cut where the text ends.
use Rattle.std.proofs.Common.{◌≡◌, ℕ, min, inl, inr, List, length, take, drop, ap, sym, ◌∙◌, arith}
use Rattle.std.proofs.Math.ListN.{drop_of_length-le}
use Rattle.std.proofs.lemmas.List.{take_all}
use Rattle.std.proofs.lemmas.Bool.{cases_lt}

pub drop_min : (n : ℕ) (xs : List ℕ) → drop (min n (length xs)) xs ≡ drop n xs
drop_min n xs = elim (cases_lt n (length xs)) [
  | inl h ↦ (let e : min n (length xs) ≡ n = omega (arith, h) in ap (λ m. drop m xs) e)
  | inr h ↦ (let e : min n (length xs) ≡ length xs = omega (arith, h) in ap (λ m. drop m xs) e ∙ drop_of_length-le xs (omega arith) ∙ sym (drop_of_length-le xs h))
]

pub take_min : (n : ℕ) (xs : List ℕ) → take (min n (length xs)) xs ≡ take n xs
take_min n xs = elim (cases_lt n (length xs)) [
  | inl h ↦ (let e : min n (length xs) ≡ n = omega (arith, h) in ap (λ m. take m xs) e)
  | inr h ↦ (let e : min n (length xs) ≡ length xs = omega (arith, h) in ap (λ m. take m xs) e ∙ take_all (length xs) xs (omega arith) ∙ sym (take_all n xs h))
]
