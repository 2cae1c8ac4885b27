-- The law that each token is the longest at its place (book, chapter 15).
use Rattle.std.specs.Prelude.{◌≡◌, ◌<◌, ◌≤◌, ◌-◌, ◌⊎◌, ℕ, Bool, IsTrue, ◌||◌, false, List, [], ◌∷◌, nat_eq, take, drop, length, codes}
use Rattle.std.specs.List.{list_all, list_any, starts_with}
use Rattle.tla_lex.specs.Bytes.{Bytes, first, is_word, is_letter, is_digit, is_dash}
use Rattle.tla_lex.specs.Decimal.{IsNumber}
use Rattle.tla_lex.specs.Strings.{IsString}
use Rattle.tla_lex.specs.Reads.{Reads}
use Rattle.tla_lex.specs.Symbols.{symbols, operators}
use Rattle.tla_lex.specs.Words.{Spellings, lookup, name_kind, reserved_words}
use Rattle.tla_lex.specs.declared.lexeme.Source.{Source}
use Rattle.tla_lex.specs.declared.scan.Stop.{Stop}
use Rattle.tla_lex.specs.declared.token.Kind.{Kind}
use Rattle.tla_lex.specs.declared.token.Kind.TheVariants as kinds
use Rattle.tla_lex.specs.declared.token.Token.{Token}

-- the spelling is in the table with this kind
abbrev pub IsListed : Bytes → Kind → Spellings → Type 0
IsListed w kind [] = ⊥
IsListed w kind (e ∷ es) = ((e.0 ≡ w) × (e.1 ≡ kind)) ⊎ IsListed w kind es

-- what comes before the subscript of a fairness condition; the subscript is a token of its own
abbrev pub fairness_marks : Spellings
fairness_marks = (codes "WF_", kinds.WeakFairness) ∷ (codes "SF_", kinds.StrongFairness) ∷ []

abbrev pub begins_fairness : Bytes → Bool
begins_fairness w = starts_with nat_eq w (codes "WF_") || starts_with nat_eq w (codes "SF_")

-- These bytes, followed by the byte `next`, are one token of this kind. A run of letters, digits and `_` ends with the
-- token, unless that is a mark of fairness.
pub data IsToken (source : Source) (w : Bytes) (next : ℕ) (kind : Kind) : Type 0 where
  -- a name or a reserved word
  name : IsTrue (list_all is_word w) → IsTrue (list_any is_letter w) → begins_fairness w ≡ false → kind ≡ name_kind (lookup reserved_words w) → is_word next ≡ false → IsToken source w next kind
  digits : IsTrue (list_all is_digit w) → IsNumber source w kind → is_word next ≡ false → IsToken source w next kind
  underscore : w ≡ codes "_" → kind ≡ kinds.Underscore → is_word next ≡ false → IsToken source w next kind
  fairness : IsListed w kind fairness_marks → IsToken source w next kind
  quoted : IsString w → kind ≡ kinds.Text → IsToken source w next kind
  separator : IsTrue (list_all is_dash w) → 4 ≤ length w → kind ≡ kinds.Separator → IsToken source w next kind
  -- a backslash and a whole run of letters
  operator : IsListed w kind operators → is_letter next ≡ false → IsToken source w next kind
  symbol : IsListed w kind symbols → IsToken source w next kind

-- the first n bytes of the text are one token of this kind
abbrev pub BeginsWith : Source → Bytes → Kind → ℕ → Type 0
BeginsWith source text kind n = IsToken source (take n text) (first (drop n text)) kind

-- it is a token at its place, and there is no longer one
pub record IsLongest (source : Source) (text : Bytes) (t : Token) : Type 0 where
  pub begins : BeginsWith source (drop t.start text) t.kind (t.end - t.start)
  pub none_longer : (m : ℕ) (kind : Kind) → t.end - t.start < m → m ≤ length (drop t.start text) → BeginsWith source (drop t.start text) kind m → ⊥

abbrev pub AreLongest : Source → Bytes → List Token → Type 0
AreLongest source text [] = Unit {0}
AreLongest source text (t ∷ ts) = IsLongest source text t × AreLongest source text ts

-- each token that is read is the longest at its place
abbrev pub LongestTokens : Type 0
LongestTokens = (source : Source) (text : Bytes) (at : ℕ) (ts : List Token) (stop : Stop) → Reads source text at ts stop → AreLongest source text ts
