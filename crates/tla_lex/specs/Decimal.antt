-- What digits say (book, chapter 15).
use Rattle.std.specs.Prelude.{◌≡◌, ◌<◌, ◌+◌, ◌*◌, ◌-◌, ◌^◌, ℕ, [], ◌∷◌, length}
use Rattle.tla_lex.specs.Bytes.{Bytes}
use Rattle.tla_lex.specs.declared.lexeme.Source.{Source}
use Rattle.tla_lex.specs.declared.lexeme.Source.TheVariants.{Module, Configuration}
use Rattle.tla_lex.specs.declared.token.Kind.{Kind}
use Rattle.tla_lex.specs.declared.token.Kind.TheVariants as kinds

-- each digit counts 10 to the power of the number of digits after it
abbrev pub decimal : Bytes → ℕ
decimal [] = 0
decimal (b ∷ rest) = (b - 48) * 10 ^ length rest + decimal rest

-- the kind of digits: in a module their number, at most 9223372036854775807; those of a configuration are read above
-- this crate
abbrev pub IsNumber : Source → Bytes → Kind → Type 0
IsNumber Module w kind = (decimal w < 2 ^ 63) × (kind ≡ kinds.Number (decimal w))
IsNumber Configuration w kind = kind ≡ kinds.Digits
