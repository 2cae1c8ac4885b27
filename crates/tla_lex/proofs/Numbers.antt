-- Digits, read one after the other, say their number.
use Rattle.std.proofs.Common.{◌≡◌, ◌+◌, ◌-◌, ◌*◌, ◌^◌, ◌<◌, ℕ, suc, Bool, true, false, if◌then◌else◌, Some, None, [], ◌∷◌, length, refl, sym, ap, ◌∙◌, subst, arith}
use Rattle.std.specs.Prelude.{nat_lt}
use Rattle.std.proofs.Math.Nat.{add-mul, mul_assoc, pow-succ'}
use Rattle.std.proofs.lemmas.Bool.Decides.{nat_tests}
use Rattle.tla_lex.specs.Bytes.{Bytes}
use Rattle.tla_lex.specs.Decimal.{decimal, IsNumber}
use Rattle.tla_lex.specs.Words.{value, small, on_small, number}
use Rattle.tla_lex.specs.declared.lexeme.Lexeme.TheVariants.{Found}
use Rattle.tla_lex.specs.declared.lexeme.Source.{Source}
use Rattle.tla_lex.specs.declared.lexeme.Source.TheVariants.{Module, Configuration}
use Rattle.tla_lex.specs.declared.token.Kind.{Kind}

value_from : (n : ℕ) (w : Bytes) → value n w ≡ n * 10 ^ length w + decimal w
value_from n [] = omega arith
value_from n (b ∷ w) =
    let later : value (n * 10 + (b - 48)) w ≡ (n * 10 + (b - 48)) * 10 ^ length w + decimal w = value_from (n * 10 + (b - 48)) w in
    let split : (n * 10 + (b - 48)) * 10 ^ length w ≡ n * 10 * 10 ^ length w + (b - 48) * 10 ^ length w = add-mul (n * 10) (b - 48) (10 ^ length w) in
    let tens : n * 10 * 10 ^ length w ≡ n * 10 ^ suc (length w) = mul_assoc n 10 (10 ^ length w) ∙ ap (λ x. n * x) (sym (pow-succ' 10 (length w))) in
    sums (value (n * 10 + (b - 48)) w) ((n * 10 + (b - 48)) * 10 ^ length w) (n * 10 * 10 ^ length w) (n * 10 ^ suc (length w)) ((b - 48) * 10 ^ length w) (decimal w) later split tens
  where
    sums : (v whole front tens digit rest : ℕ) → v ≡ whole + rest → whole ≡ front + digit → front ≡ tens → v ≡ tens + (digit + rest)
    sums v whole front tens digit rest a b c = omega (arith, a, b, c)

pub value_decimal : (w : Bytes) → value 0 w ≡ decimal w
value_decimal w = value_from 0 w ∙ alone (10 ^ length w) (decimal w)
  where
    alone : (x y : ℕ) → 0 * x + y ≡ y
    alone x y = omega arith

below : (m n : ℕ) → nat_lt m n ≡ true → m < n
below m n h = grind (arith, nat_tests)

is_below : (m n : ℕ) → m < n → nat_lt m n ≡ true
is_below m n h = grind (arith, nat_tests)

pub number_is : (source : Source) (w : Bytes) (kind : Kind) (n : ℕ) → number source w ≡ Found kind n → IsNumber source w kind
number_is Configuration w kind n h = cc
number_is Module w kind n h = by (nat_lt (decimal w) (2 ^ 63)) refl (subst (λ v. on_small (small v) (length w) ≡ Found kind n) (value_decimal w) h)
  where
    by : (c : Bool) → nat_lt (decimal w) (2 ^ 63) ≡ c → on_small (if c then Some (decimal w) else None) (length w) ≡ Found kind n → IsNumber Module w kind
    by true e g = (below (decimal w) (2 ^ 63) e, cc)
    by false e g = absurd (let z : ⊥ = cc in z)

pub is_number : (source : Source) (w : Bytes) (kind : Kind) → IsNumber source w kind → number source w ≡ Found kind (length w)
is_number Configuration w kind h = ap (λ k. Found k (length w)) (sym h)
is_number Module w kind h =
    ap (λ v. on_small (small v) (length w)) (value_decimal w)
    ∙ ap (λ c. on_small (if c then Some (decimal w) else None) (length w)) (is_below (decimal w) (2 ^ 63) h.0)
    ∙ ap (λ k. Found k (length w)) (sym h.1)
