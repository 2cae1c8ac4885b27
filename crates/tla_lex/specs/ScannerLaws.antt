-- The laws that the scanner's loops find what the definitions name.
use Rattle.std.specs.Prelude.{◌≡◌, ◌↔◌, ℕ, IsTrue, Some, None, length}
use Rattle.tla_lex.specs.Bytes.{Bytes, first, is_quote}
use Rattle.tla_lex.specs.Closing.{IsClosingLine, NoClosingLine}
use Rattle.tla_lex.specs.Comments.{IsLeadingGap, IsOpenComment}
use Rattle.tla_lex.specs.Decimal.{IsNumber}
use Rattle.tla_lex.specs.Fronts.{Comes}
use Rattle.tla_lex.specs.Gap.{gap}
use Rattle.tla_lex.specs.Header.{IsHeader, NoHeader}
use Rattle.tla_lex.specs.Module.{header_end, closing}
use Rattle.tla_lex.specs.Reads.{front}
use Rattle.tla_lex.specs.StringLoops.{string, string_text}
use Rattle.tla_lex.specs.Strings.{BeginsWithString, IsTextOf}
use Rattle.tla_lex.specs.Words.{number}
use Rattle.tla_lex.specs.declared.gap.Gap.TheVariants as gaps
use Rattle.tla_lex.specs.declared.lexeme.Lexeme.{Lexeme}
use Rattle.tla_lex.specs.declared.lexeme.Lexeme.TheVariants.{Found}
use Rattle.tla_lex.specs.declared.lexeme.Source.{Source}
use Rattle.tla_lex.specs.declared.scan.Front.{Front}
use Rattle.tla_lex.specs.declared.token.Kind.{Kind}

-- The loop over blanks and comments ends exactly where they end, and finds exactly the comment that stays open.
abbrev pub GapIsFound : Type 0
GapIsFound = (text : Bytes) (n : ℕ) → ((gap text ≡ gaps.End n) ↔ IsLeadingGap text n) × ((gap text ≡ gaps.Open n) ↔ IsOpenComment text n)

-- The loop that looks for the closing line finds exactly the first one.
abbrev pub ClosingIsFound : Type 0
ClosingIsFound = (text : Bytes) (from : ℕ) → ((to : ℕ) → (closing text from ≡ Some to) ↔ IsClosingLine text from to) × ((closing text from ≡ None) ↔ NoClosingLine text from)

-- The loop that looks for the header finds exactly the first one.
abbrev pub HeaderIsFound : Type 0
HeaderIsFound = (text : Bytes) → ((end : ℕ) → (header_end text ≡ Some end) ↔ IsHeader text end) × ((header_end text ≡ None) ↔ NoHeader text)

-- What comes next, as the lists of tokens have it, is what comes after blanks and comments.
abbrev pub FrontIsFound : Type 0
FrontIsFound = (source : Source) (text : Bytes) (at : ℕ) (f : Front) → (front source text at ≡ f) ↔ Comes source text at f

-- What the loops read from a quote on is exactly what begins there: a string, or its fault.
abbrev pub StringIsFound : Type 0
StringIsFound = (text : Bytes) (l : Lexeme) → IsTrue (is_quote (first text)) → (string text ≡ l) ↔ BeginsWithString text l

-- The loop over a string reads exactly its text, of which there is one.
abbrev pub TextIsRead : Type 0
TextIsRead = (literal text : Bytes) → (string_text literal ≡ text) ↔ IsTextOf literal text

-- Digits are read as the number that they say.
abbrev pub NumberIsFound : Type 0
NumberIsFound = (source : Source) (w : Bytes) (kind : Kind) → (number source w ≡ Found kind (length w)) ↔ IsNumber source w kind
