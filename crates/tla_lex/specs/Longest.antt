-- The law that a symbol is the longest at its place (book, chapter 15).
use Rattle.std.specs.Prelude.{◌≡◌, ◌≤◌, ℕ, IsTrue, ◌⊎◌, nat_eq, [], ◌∷◌, length}
use Rattle.std.specs.List.{starts_with}
use Rattle.tla_lex.specs.Bytes.{Bytes}
use Rattle.tla_lex.specs.Symbols.{longest, symbols, found_len}
use Rattle.tla_lex.specs.Words.{Spellings}
use Rattle.tla_lex.specs.declared.error.LexCode.TheVariants.{Unknown}
use Rattle.tla_lex.specs.declared.lexeme.Lexeme.TheVariants.{Found, Fault}
use Rattle.tla_lex.specs.declared.token.Kind.{Kind}

-- no spelling at the front of the text is longer
abbrev pub NoneLonger : Bytes → ℕ → Spellings → Type 0
NoneLonger text n [] = Unit {0}
NoneLonger text n (e ∷ es) = (IsTrue (starts_with nat_eq text e.0) → length e.0 ≤ n) × NoneLonger text n es

-- a spelling at the front of the text has this kind and length
abbrev pub IsAmong : Bytes → Kind → ℕ → Spellings → Type 0
IsAmong text kind n [] = ⊥
IsAmong text kind n (e ∷ es) = (IsTrue (starts_with nat_eq text e.0) × (e.1 ≡ kind) × (length e.0 ≡ n)) ⊎ IsAmong text kind n es

-- what is read at the front of a text is one of the symbols there, and no other of them is longer; nothing is read
-- only where there is none
abbrev pub LongestSymbol : Type 0
LongestSymbol =
    (text : Bytes) → NoneLonger text (found_len (longest text (Fault Unknown 0) symbols)) symbols
    × ((kind : Kind) (n : ℕ) → longest text (Fault Unknown 0) symbols ≡ Found kind n → IsAmong text kind n symbols)
