-- Strings (book, chapter 15): between quotes, with the escapes `\"` `\\` `\t` `\n` `\f` `\r`, and no line end.
use Rattle.std.specs.Prelude.{◌≡◌, ℕ, suc, Bool, true, false, not, ◌||◌, ◌==◌, IsTrue, if◌then◌else◌, [], ◌∷◌, ◌++◌, Option, Some, None, drop, length, codes, unwrap_or}
use Rattle.tla_lex.specs.Bytes.{Bytes, is_line_feed, is_quote, is_backslash}
use Rattle.tla_lex.specs.Comments.{is_inline, IsLineEnd}
use Rattle.tla_lex.specs.declared.error.LexCode.TheVariants.{Unknown, OpenString}
use Rattle.tla_lex.specs.declared.lexeme.Lexeme.{Lexeme}
use Rattle.tla_lex.specs.declared.lexeme.Lexeme.TheVariants.{Found, Fault}
use Rattle.tla_lex.specs.declared.token.Kind.TheVariants as kinds

-- what a byte after a backslash means
abbrev pub escape : ℕ → Option ℕ
escape b =
    if is_quote b || is_backslash b then Some b
    else if b == 116 then Some 9
    else if b == 110 then Some 10
    else if b == 102 then Some 12
    else if b == 114 then Some 13
    else None

abbrev pub is_unknown : Option ℕ → Bool
is_unknown None = true
is_unknown (Some b) = false

-- a byte after a backslash that makes an escape
abbrev pub is_escape : ℕ → Bool
is_escape b = not (is_unknown (escape b))

-- a byte that means itself in a string
abbrev pub is_literal : ℕ → Bool
is_literal b = not (is_line_feed b || is_quote b || is_backslash b)

-- These bytes may be between quotes. After a backslash comes one of certain bytes.
pub data IsQuotable (after_backslash : ℕ → Bool) : Bytes → Type 0 where
  nothing : IsQuotable after_backslash []
  literal : (b : ℕ) (w : Bytes) → IsTrue (is_literal b) → IsQuotable after_backslash w → IsQuotable after_backslash (b ∷ w)
  escaped : (b : ℕ) (w : Bytes) → IsTrue (after_backslash b) → IsQuotable after_backslash w → IsQuotable after_backslash (codes "\\" ++ (b ∷ w))

-- a string
abbrev pub IsString : Bytes → Type 0
IsString text = (w : Bytes) × (text ≡ codes "\"" ++ (w ++ codes "\"")) × IsQuotable is_escape w

-- a string, or one with unknown escapes
abbrev pub IsClosedString : Bytes → Type 0
IsClosedString text = (w : Bytes) × (text ≡ codes "\"" ++ (w ++ codes "\"")) × IsQuotable is_inline w

-- a quote and all after it to the end of the line, where no string ends
pub data IsOpenString : Bytes → Bytes → Type 0 where
  unclosed : (w rest : Bytes) → IsQuotable is_inline w → IsLineEnd rest → IsOpenString (codes "\"" ++ w) rest
  unclosed_escape : (w rest : Bytes) → IsQuotable is_inline w → IsLineEnd rest → IsOpenString (codes "\"" ++ (w ++ codes "\\")) rest

-- At byte `at` of a text, after a quote and what may be in a string, there is a backslash that begins no escape.
pub data HasUnknownEscape : Bytes → ℕ → Type 0 where
  unknown : (w : Bytes) (b : ℕ) (rest : Bytes) → IsQuotable is_escape w → is_escape b ≡ false
      → HasUnknownEscape (codes "\"" ++ (w ++ (codes "\\" ++ (b ∷ rest)))) (suc (length w))

-- What a text that begins with a quote begins with: a string; or, if its first line closes no string, a fault at the
-- quote; or else a fault at the first backslash that begins no escape.
pub data BeginsWithString : Bytes → Lexeme → Type 0 where
  found : (s rest : Bytes) → IsString s → BeginsWithString (s ++ rest) (Found kinds.Text (length s))
  open_string : (s rest : Bytes) → IsOpenString s rest → BeginsWithString (s ++ rest) (Fault OpenString 0)
  unknown_first : (s rest : Bytes) (at : ℕ) → IsClosedString s → HasUnknownEscape s at → BeginsWithString (s ++ rest) (Fault Unknown at)

-- the byte that a backslash and this byte mean; one that makes no escape means itself
abbrev pub escaped_byte : ℕ → ℕ
escaped_byte b = unwrap_or (escape b) b

-- What the bytes after an opening quote mean, up to the closing quote. Bytes that no quote closes are no string's; they
-- mean what there is of them.
pub data Means : Bytes → Bytes → Type 0 where
  closing_quote : (rest : Bytes) → Means (codes "\"" ++ rest) []
  itself : (b : ℕ) (rest text : Bytes) → is_quote b ≡ false → is_backslash b ≡ false → Means rest text → Means (b ∷ rest) (b ∷ text)
  escape_of : (b : ℕ) (rest text : Bytes) → Means rest text → Means (codes "\\" ++ (b ∷ rest)) (escaped_byte b ∷ text)
  no_quote : Means [] []
  lone_backslash : Means (codes "\\") []

-- the text of a string, which is given with its quotes
abbrev pub IsTextOf : Bytes → Bytes → Type 0
IsTextOf string text = Means (drop 1 string) text
