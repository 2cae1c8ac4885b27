-- The longest token at the front of a text (book, chapter 15).
use Rattle.std.specs.Prelude.{nat_le, nat_lt, if◌then◌else◌, take}
use Rattle.std.specs.List.{prefix_len}
use Rattle.tla_lex.specs.Bytes.{Bytes, first, is_word, is_quote, is_dash}
use Rattle.tla_lex.specs.Words.{word}
use Rattle.tla_lex.specs.StringLoops.{string}
use Rattle.tla_lex.specs.Symbols.{symbol}
use Rattle.tla_lex.specs.declared.lexeme.Lexeme.{Lexeme}
use Rattle.tla_lex.specs.declared.lexeme.Lexeme.TheVariants.{Found}
use Rattle.tla_lex.specs.declared.lexeme.Source.{Source}
use Rattle.tla_lex.specs.declared.token.Kind.TheVariants as kind

-- Its kind and length, or the code of a fault and how far it is from the front. A run of four or more dashes is one
-- token.
unfoldable pub lexeme : Source → Bytes → Lexeme
lexeme source text =
    let run = prefix_len is_word text in
    let dashes = prefix_len is_dash text in
    if nat_lt 0 run then word source (take run text)
    else if is_quote (first text) then string text
    else if nat_le 4 dashes then Found kind.Separator dashes
    else symbol text
