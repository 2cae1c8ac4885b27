-- The longest spelling is the longest, and one of its table.
use Rattle.std.proofs.Common.{◌≡◌, ◌≤◌, ◌<◌, ℕ, Bool, true, false, IsTrue, ◌&&◌, if◌then◌else◌, nat_eq, nat_lt, ◌⊎◌, inl, inr, [], ◌∷◌, length, refl, sym, ◌∙◌, subst, arith}
use Rattle.std.proofs.lemmas.Bool.Decides.{nat_tests}
use Rattle.std.specs.List.{starts_with}
use Rattle.tla_lex.specs.Bytes.{Bytes}
use Rattle.tla_lex.specs.Longest.{NoneLonger, IsAmong}
use Rattle.tla_lex.specs.Symbols.{longest, pick, found_len}
use Rattle.tla_lex.specs.Words.{Spellings}
use Rattle.tla_lex.specs.declared.lexeme.Lexeme.{Lexeme}
use Rattle.tla_lex.specs.declared.lexeme.Lexeme.TheVariants.{Found}
use Rattle.tla_lex.specs.declared.token.Kind.{Kind}

chosen_rises : (s t : Bool) (best : Lexeme) (k : Kind) (l : ℕ) → (t ≡ true → found_len best < l)
    → found_len best ≤ found_len (if s && t then Found k l else best)
chosen_rises false t best k l h = omega arith
chosen_rises true false best k l h = omega arith
chosen_rises true true best k l h = let x = h refl in omega (arith, x)

chosen_covers : (t : Bool) (best : Lexeme) (k : Kind) (l : ℕ) → (t ≡ false → l ≤ found_len best) → l ≤ found_len (if true && t then Found k l else best)
chosen_covers false best k l h = h refl
chosen_covers true best k l h = omega arith

below : (m n : ℕ) → nat_lt m n ≡ true → m < n
below m n h = grind (arith, nat_tests)

above : (m n : ℕ) → nat_lt m n ≡ false → n ≤ m
above m n h = grind (arith, nat_tests)

pick_rises : (text : Bytes) (best : Lexeme) (e : Bytes × Kind) → found_len best ≤ found_len (pick text best e)
pick_rises text best e =
    chosen_rises (starts_with nat_eq text e.0) (nat_lt (found_len best) (length e.0)) best e.1 (length e.0) (λ h. below (found_len best) (length e.0) h)

pick_covers : (text : Bytes) (best : Lexeme) (e : Bytes × Kind) → IsTrue (starts_with nat_eq text e.0) → length e.0 ≤ found_len (pick text best e)
pick_covers text best e h =
    let P : Bool → Type 0 = λ s. length e.0 ≤ found_len (if s && nat_lt (found_len best) (length e.0) then Found e.1 (length e.0) else best) in
    subst P (sym h) (chosen_covers (nat_lt (found_len best) (length e.0)) best e.1 (length e.0) (λ t. above (found_len best) (length e.0) t))

longest_rises : (text : Bytes) (best : Lexeme) (es : Spellings) → found_len best ≤ found_len (longest text best es)
longest_rises text best [] = omega arith
longest_rises text best (e ∷ es) = let a = pick_rises text best e in let b = longest_rises text (pick text best e) es in omega (arith, a, b)

pub none_longer : (text : Bytes) (best : Lexeme) (es : Spellings) → NoneLonger text (found_len (longest text best es)) es
none_longer text best [] = tt
none_longer text best (e ∷ es) =
    let rest = longest_rises text (pick text best e) es in
    (λ h. let here = pick_covers text best e h in omega (arith, here, rest), none_longer text (pick text best e) es)

-- what is chosen is the better one or the one before
chosen_is : (s t : Bool) (best : Lexeme) (k : Kind) (l : ℕ) → (IsTrue s × ((if s && t then Found k l else best) ≡ Found k l)) ⊎ ((if s && t then Found k l else best) ≡ best)
chosen_is false t best k l = inr refl
chosen_is true false best k l = inr refl
chosen_is true true best k l = inl (refl, refl)

from_before : (text : Bytes) (best : Lexeme) (e : Bytes × Kind) (es : Spellings) (kind : Kind) (n : ℕ)
    → (pick text best e ≡ Found kind n) ⊎ IsAmong text kind n es → (best ≡ Found kind n) ⊎ IsAmong text kind n (e ∷ es)
from_before text best e es kind n (inr h) = inr (inr h)
from_before text best e es kind n (inl h) = elim (chosen_is (starts_with nat_eq text e.0) (nat_lt (found_len best) (length e.0)) best e.1 (length e.0)) [
  | inl w ↦ let same : Found e.1 (length e.0) ≡ Found kind n = sym w.1 ∙ h in inr (inl (w.0, cc, cc))
  | inr w ↦ inl (sym w ∙ h)
]

pub is_among : (text : Bytes) (best : Lexeme) (es : Spellings) (kind : Kind) (n : ℕ) → longest text best es ≡ Found kind n → (best ≡ Found kind n) ⊎ IsAmong text kind n es
is_among text best [] kind n h = inl h
is_among text best (e ∷ es) kind n h = from_before text best e es kind n (is_among text (pick text best e) es kind n h)
