-- Where a value is found to be beyond the limits while it is read, before its end is known. Private contracts alone
-- cite this.
use Rattle.std.specs.Prelude.{◌≡◌, ℕ, ◌+◌, List, [], ◌∷◌}
use Rattle.tla_lex.specs.Bytes.{Bytes}
use Rattle.tla_lex.specs.declared.token.Kind.TheVariants as k
use Rattle.tla_lex.specs.declared.token.Token.{Token}
use Rattle.tla_value.specs.IsValue.{IsValue}
use Rattle.tla_config.specs.Configuration.{Has, SpellsLiteral}
use Rattle.tla_config.specs.Literals.{Literal, value_of}

module _ (text : Bytes) (ts : List Token) where
  -- members of a set are between two tokens, each with a comma after it
  abbrev pub MembersUpTo : List Literal → ℕ → ℕ → Type 0
  MembersUpTo [] from to = from ≡ to
  MembersUpTo (l ∷ ls) from to = (mid : ℕ) × SpellsLiteral text ts l from mid × Has text ts k.Comma mid × MembersUpTo ls (mid + 1) to

  -- what begins here is beyond the limits where a value may be nested so deep at most
  pub data IsBeyond : ℕ → ℕ → Type 0 where
    -- it is there, and is no value: a number, a name or a string, or a set with its braces
    itself : (room from to : ℕ) (l : Literal) → SpellsLiteral text ts l from to → (IsValue (value_of l) → ⊥) → IsBeyond room from
    -- it opens one brace too many
    nested : (from : ℕ) → Has text ts k.LeftBrace from → IsBeyond 0 from
    -- it opens a set, and a member after others is beyond the limits
    member : (room from at : ℕ) (ls : List Literal) → Has text ts k.LeftBrace from → MembersUpTo ls (from + 1) at → IsBeyond room at → IsBeyond (room + 1) from
