-- The laws of the search for the closing line: it agrees with the tokens on what lies outside comments and strings,
-- and finds the first place there.
use Rattle.std.specs.Prelude.{◌≡◌, ℕ, zero, suc, ◌+◌, ◌-◌, ◌<◌, IsTrue, List, [], ◌∷◌, Option, Some, None, drop, nat_eq, codes}
use Rattle.std.specs.List.{starts_with}
use Rattle.tla_lex.specs.Bytes.{Bytes, first}
use Rattle.tla_lex.specs.Module.{closing, region_after}
use Rattle.tla_lex.specs.Reads.{Reads}
use Rattle.tla_lex.specs.declared.closing.Region.{Region}
use Rattle.tla_lex.specs.declared.closing.Region.TheVariants.{Code}
use Rattle.tla_lex.specs.declared.gap.Mode.TheVariants.{Depth}
use Rattle.tla_lex.specs.declared.lexeme.Source.{Source}
use Rattle.tla_lex.specs.declared.scan.Stop.{Stop}
use Rattle.tla_lex.specs.declared.token.Token.{Token}

-- outside comments and strings
abbrev pub code : Region
code = Code (Depth 0)

-- where n bytes lead, as they are passed over in looking for the closing line
abbrev pub region_behind : Region → ℕ → Bytes → Region
region_behind region zero text = region
region_behind region (suc n) [] = region
region_behind region (suc n) (b ∷ rest) = region_behind (region_after region b (first rest)) n rest

-- from byte `at` on, each token begins and ends outside comments and strings, as they are passed over in looking for
-- the closing line
abbrev pub StayInCode : Bytes → ℕ → List Token → Type 0
StayInCode text at [] = Unit {0}
StayInCode text at (t ∷ ts) =
    (region_behind code (t.start - at) (drop at text) ≡ code)
    × (region_behind code (t.end - t.start) (drop t.start text) ≡ code)
    × StayInCode text t.end ts

-- the search for the closing line and the reading of tokens agree on what lies outside comments and strings
abbrev pub TokensInCode : Type 0
TokensInCode = (source : Source) (text : Bytes) (at : ℕ) (ts : List Token) (stop : Stop) → Reads source text at ts stop → StayInCode text at ts

-- after n bytes there is `====`, outside comments and strings
abbrev pub ClosesBehind : Region → Bytes → ℕ → Type 0
ClosesBehind region text n = (region_behind region n text ≡ code) × IsTrue (starts_with nat_eq (drop n text) (codes "===="))

-- in a text that begins with byte `at`: the first such place, or none where there is none
abbrev pub IsFirstClosing : Region → Bytes → ℕ → Option ℕ → Type 0
IsFirstClosing region text at None = (n : ℕ) → ClosesBehind region text n → ⊥
IsFirstClosing region text at (Some to) = (n : ℕ) × (to ≡ at + n) × ClosesBehind region text n × ((j : ℕ) → j < n → ClosesBehind region text j → ⊥)

-- the closing line begins at the first `====` outside comments and strings
abbrev pub ClosingIsFirst : Type 0
ClosingIsFirst = (text : Bytes) (from : ℕ) → IsFirstClosing code (drop from text) from (closing text from)
