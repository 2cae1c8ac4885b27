-- The tokens of a module, and its first fault.
use Rattle.std.specs.Prelude.{◌≡◌, ℕ, ◌+◌, List, [], ◌∷◌, ◌++◌, Some, None, take, drop, length}
use Rattle.std.specs.List.{prefix_len}
use Rattle.std.specs.Str.{IsUtf8}
use Rattle.std.specs.Str.Lossy.{utf8_valid_len}
use Rattle.tla_lex.specs.Bytes.{Bytes, is_equal_sign}
use Rattle.tla_lex.specs.Closing.{IsClosingLine, NoClosingLine}
use Rattle.tla_lex.specs.Header.{IsHeader, NoHeader}
use Rattle.tla_lex.specs.Reads.{Reads, InOrder, token_at, fault_at}
use Rattle.tla_lex.specs.declared.error.LexCode.TheVariants as code
use Rattle.tla_lex.specs.declared.error.LexError.{LexError}
use Rattle.tla_lex.specs.declared.lexeme.Source.TheVariants.{Module}
use Rattle.tla_lex.specs.declared.scan.Stop.TheVariants.{End, Fault}
use Rattle.tla_lex.specs.declared.token.Kind.TheVariants as kind
use Rattle.tla_lex.specs.declared.token.Place.{Place}
use Rattle.tla_lex.specs.declared.token.Token.{Token}

-- the closing line, which begins at this byte
abbrev pub closing_line : Bytes → ℕ → Token
closing_line text at = token_at text kind.Closing at (at + prefix_len is_equal_sign (drop at text))

-- The tokens of a module: all between its header and its closing line, and the closing line.
pub record AreTokens (text : Bytes) (ts : List Token) : Type 0 where
  pub utf8 : IsUtf8 text
  pub from : ℕ
  pub to : ℕ
  pub inner : List Token
  pub end : Place
  pub header : IsHeader text from
  pub line : IsClosingLine text from to
  pub reads : Reads Module (take to text) from inner (End end)
  pub all : ts ≡ inner ++ closing_line text to ∷ []
  pub in_order : InOrder from (length text) ts

abbrev pub NoTokens : Bytes → Type 0
NoTokens text = (ts : List Token) → AreTokens text ts → ⊥

-- UTF-8 fails first at this fault
abbrev pub IsNotUtf8 : Bytes → LexError → Type 0
IsNotUtf8 text e = ¬ (IsUtf8 text) × (e ≡ fault_at text code.NotUtf8 (utf8_valid_len text))

-- The first fault of a module: UTF-8 is asked for first, over the whole text, then the header, then the tokens up to
-- the closing line, and the closing line last.
pub data IsFirstFault (text : Bytes) (e : LexError) : Type 0 where
  not_utf8 : IsNotUtf8 text e → IsFirstFault text e
  no_header : IsUtf8 text → NoHeader text → e ≡ fault_at text code.NoHeader 0 → IsFirstFault text e
  before_closing_line : (from to : ℕ) (ts : List Token) → IsUtf8 text → IsHeader text from → IsClosingLine text from to
      → Reads Module (take to text) from ts (Fault e) → IsFirstFault text e
  in_open_module : (from : ℕ) (ts : List Token) → IsUtf8 text → IsHeader text from → NoClosingLine text from → Reads Module text from ts (Fault e) → IsFirstFault text e
  no_closing_line : (from : ℕ) (ts : List Token) (end : Place) → IsUtf8 text → IsHeader text from → NoClosingLine text from
      → Reads Module text from ts (End end) → e ≡ record { code = code.NoClosingLine; place = Some end } → IsFirstFault text e

-- the error that memory ran out, which has no place
abbrev pub no_memory : LexError
no_memory = record { code = code.NoMemory; place = None }
