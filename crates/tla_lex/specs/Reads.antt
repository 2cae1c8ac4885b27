-- What is read of a text, token by token.
use Rattle.std.specs.Prelude.{◌≡◌, ◌≤◌, ◌<◌, ℕ, ◌+◌, ◌==◌, if◌then◌else◌, List, [], ◌∷◌, Some, drop, length}
use Rattle.tla_lex.specs.Bytes.{Bytes}
use Rattle.tla_lex.specs.Gap.{gap}
use Rattle.tla_lex.specs.Lexeme.{lexeme}
use Rattle.tla_lex.specs.Places.{place_at}
use Rattle.tla_lex.specs.declared.error.LexCode.{LexCode}
use Rattle.tla_lex.specs.declared.error.LexCode.TheVariants.{OpenComment}
use Rattle.tla_lex.specs.declared.error.LexError.{LexError}
use Rattle.tla_lex.specs.declared.gap.Gap.{Gap}
use Rattle.tla_lex.specs.declared.gap.Gap.TheVariants as gaps
use Rattle.tla_lex.specs.declared.lexeme.Lexeme.{Lexeme}
use Rattle.tla_lex.specs.declared.lexeme.Lexeme.TheVariants as lexemes
use Rattle.tla_lex.specs.declared.lexeme.Source.{Source}
use Rattle.tla_lex.specs.declared.scan.Front.{Front}
use Rattle.tla_lex.specs.declared.scan.Front.TheVariants.{Begins, Stops}
use Rattle.tla_lex.specs.declared.scan.Stop.{Stop}
use Rattle.tla_lex.specs.declared.scan.Stop.TheVariants.{End, Fault}
use Rattle.tla_lex.specs.declared.token.Kind.{Kind}
use Rattle.tla_lex.specs.declared.token.Token.{Token}

abbrev pub token_at : Bytes → Kind → ℕ → ℕ → Token
token_at text kind start end = record { kind = kind; start = start; end = end; place = place_at text start }

abbrev pub fault_at : Bytes → LexCode → ℕ → LexError
fault_at text code at = record { code = code; place = Some (place_at text at) }

abbrev pub begun : Bytes → ℕ → Lexeme → Front
begun text at (lexemes.Found kind n) = Begins (token_at text kind at (at + n))
begun text at (lexemes.Fault code n) = Stops (Fault (fault_at text code (at + n)))

abbrev pub begun_at : Source → Bytes → ℕ → Front
begun_at source text at = begun text at (lexeme source (drop at text))

abbrev pub behind : Source → Bytes → ℕ → Gap → Front
behind source text at (gaps.Open n) = Stops (Fault (fault_at text OpenComment (at + n)))
behind source text at (gaps.End n) =
    if at + n == length text then Stops (End (place_at text (at + n)))
    else begun_at source text (at + n)

-- what comes next in a text from a byte on, after blanks and comments: a token, the end or a fault
unfoldable pub front : Source → Bytes → ℕ → Front
front source text at = behind source text at (gap (drop at text))

-- From a byte on a text is these tokens, with blanks and comments between them, and then comes this stop.
abbrev pub Reads : Source → Bytes → ℕ → List Token → Stop → Type 0
Reads source text at [] stop = front source text at ≡ Stops stop
Reads source text at (t ∷ ts) stop = (front source text at ≡ Begins t) × Reads source text t.end ts stop

-- spans are in order, from a byte up to another
abbrev pub InOrder : ℕ → ℕ → List Token → Type 0
InOrder from to [] = from ≤ to
InOrder from to (t ∷ ts) = (from ≤ t.start) × (t.start < t.end) × InOrder t.end to ts
