-- Values beyond the limits of values (this project's own choice).
use Rattle.std.specs.Prelude.{ℕ, List}
use Rattle.tla_lex.specs.Bytes.{Bytes}
use Rattle.tla_lex.specs.declared.token.Token.{Token}
use Rattle.tla_value.specs.IsValue.{IsValue}
use Rattle.tla_config.specs.Configuration.{SpellsLiteral}
use Rattle.tla_config.specs.Literals.{Literal, value_of}

-- what is written here, whole and with all its braces closed, is beyond the limits of values
abbrev pub IsWrittenBeyond : Bytes → List Token → ℕ → Type 0
IsWrittenBeyond text ts at = (l : Literal) × (to : ℕ) × SpellsLiteral text ts l at to × (IsValue (value_of l) → ⊥)
