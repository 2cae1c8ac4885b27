-- The loops over a string, byte by byte; `Strings` says what a string and its text are, and laws say that the loops
-- find them.
use Rattle.std.specs.Prelude.{ℕ, ◌+◌, Bool, true, false, not, ◌&&◌, if◌then◌else◌, [], ◌∷◌, Option, Some, None, take, drop}
use Rattle.tla_lex.specs.Bytes.{Bytes, first, is_line_feed, is_quote, is_backslash}
use Rattle.tla_lex.specs.Strings.{escape, is_unknown, escaped_byte}
use Rattle.tla_lex.specs.declared.error.LexCode.TheVariants.{Unknown, OpenString}
use Rattle.tla_lex.specs.declared.lexeme.Lexeme.{Lexeme}
use Rattle.tla_lex.specs.declared.lexeme.Lexeme.TheVariants.{Found, Fault}
use Rattle.tla_lex.specs.declared.token.Kind.TheVariants as kind

-- Where a string ends, past its closing quote, from byte `at` on; `escaped` says that there is a backslash before.
-- `None` if the line ends first.
unfoldable pub end_from : Bool → ℕ → Bytes → Option ℕ
end_from escaped at [] = None
end_from escaped at (b ∷ rest) =
    if is_line_feed b then None
    else if is_quote b && not escaped then Some (at + 1)
    else end_from (is_backslash b && not escaped) (at + 1) rest

-- the first backslash from byte `at` on that begins no escape
unfoldable pub unknown_escape : Bool → ℕ → Bytes → Option ℕ
unknown_escape escaped at [] = None
unknown_escape escaped at (b ∷ rest) =
    let begins = is_backslash b && not escaped in
    if begins && is_unknown (escape (first rest)) then Some at else unknown_escape begins (at + 1) rest

abbrev pub closed : ℕ → Option ℕ → Lexeme
closed n None = Found kind.Text n
closed n (Some at) = Fault Unknown at

abbrev pub on_end : Bytes → Option ℕ → Lexeme
on_end text None = Fault OpenString 0
on_end text (Some n) = closed n (unknown_escape false 1 (drop 1 (take n text)))

-- the string at the front of a text that begins with a quote
unfoldable pub string : Bytes → Lexeme
string text = on_end text (end_from false 1 (drop 1 text))

-- the text after an opening quote, up to the closing one, with its escapes read
unfoldable pub unescaped : Bool → Bytes → Bytes
unescaped escaped [] = []
unescaped true (b ∷ rest) = escaped_byte b ∷ unescaped false rest
unescaped false (b ∷ rest) =
    if is_quote b then [] else if is_backslash b then unescaped true rest else b ∷ unescaped false rest

-- the text of a string, which is given with its quotes
abbrev pub string_text : Bytes → Bytes
string_text literal = unescaped false (drop 1 literal)
