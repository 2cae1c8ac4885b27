use Rattle.std.proofs.Common.{◌≡◌, ◌⊎◌, inl, inr, ℕ}
use Rattle.tla_lex.specs.Bytes.{Bytes}
use Rattle.tla_lex.specs.Longest.{IsAmong}
use Rattle.tla_lex.specs.Symbols.{symbols}
use Rattle.tla_lex.specs.declared.error.LexCode.TheVariants.{Unknown}
use Rattle.tla_lex.specs.declared.lexeme.Lexeme.TheVariants.{Found, Fault}
use Rattle.tla_lex.specs.declared.token.Kind.{Kind}
use Rattle.tla_lex.proofs.LongestLemmas.{none_longer, is_among}
use Rattle.tla_lex.proofs.laws.longest_symbol.Goals as goal

among : (text : Bytes) (kind : Kind) (n : ℕ) → (Fault Unknown 0 ≡ Found kind n) ⊎ IsAmong text kind n symbols → IsAmong text kind n symbols
among text kind n h = elim h [ inl w ↦ absurd (let z : ⊥ = cc in z) | inr w ↦ w ]

pub returns : goal.returns
returns c text = (none_longer text (Fault Unknown 0) symbols, λ kind n h. among text kind n (is_among text (Fault Unknown 0) symbols kind n h))
