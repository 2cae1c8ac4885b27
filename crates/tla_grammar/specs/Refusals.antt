-- What a refusal says of the tokens, and of a reading.
use Rattle.std.specs.Prelude.{◌≡◌, ℕ, List, Err}
use Rattle.tla_lex.specs.declared.token.Token.{Token}
use Rattle.tla_grammar.specs.declared.refusal.Refusal.{Refusal}
use Rattle.tla_grammar.specs.declared.refusal.Refusal.TheVariants as refusal
use Rattle.tla_grammar.specs.LeftOut.{BeginsLeftOut, IsUnknownModule, IsWordLeftOut, IsSecondHeader}
use Rattle.tla_grammar.specs.Outcome.{Outcome, Refused, Nested}

-- A refusal of a token at its place. A form that is left out is one of those; a token that is unexpected or too far
-- left is no word that is left out.
abbrev pub Refuses : List Token → Refusal → Type 0
Refuses ts (refusal.Unexpected at) = IsWordLeftOut ts at → ⊥
Refuses ts (refusal.Precedence at) = Unit {0}
Refuses ts (refusal.Column at) = IsWordLeftOut ts at → ⊥
Refuses ts (refusal.Nesting at) = ⊥
Refuses ts (refusal.LeftOut at) = BeginsLeftOut ts at
Refuses ts (refusal.UnknownModule at) = ⊥
Refuses ts (refusal.SecondHeader at) = ⊥
Refuses ts refusal.NoMemory = Unit {0}

-- a refusal of a token that begins no unit, which may be a second header
abbrev pub RefusesUnit : List ℕ → List Token → Refusal → Type 0
RefusesUnit text ts (refusal.SecondHeader at) = IsSecondHeader ts text at
RefusesUnit text ts refusal = Refuses ts refusal

-- a refusal says how the reading ends; that memory ran out says nothing
abbrev pub Fails : {A : Type 0} → List ℕ → List Token → Refusal → Outcome A → Type 0
Fails text ts (refusal.Unexpected at) read = (read ≡ Err Refused) × (IsWordLeftOut ts at → ⊥)
Fails text ts (refusal.Precedence at) read = read ≡ Err Refused
Fails text ts (refusal.Column at) read = (read ≡ Err Refused) × (IsWordLeftOut ts at → ⊥)
Fails text ts (refusal.Nesting at) read = read ≡ Err Nested
Fails text ts (refusal.LeftOut at) read = (read ≡ Err Refused) × BeginsLeftOut ts at
Fails text ts (refusal.UnknownModule at) read = (read ≡ Err Refused) × IsUnknownModule ts text at
Fails text ts (refusal.SecondHeader at) read = (read ≡ Err Refused) × IsSecondHeader ts text at
Fails text ts refusal.NoMemory read = Unit {0}
