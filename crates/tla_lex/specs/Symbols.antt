-- Symbols and operators that begin with a backslash (book, chapter 15; the choice of symbols is this project's own).
use Rattle.std.specs.Prelude.{ℕ, ◌+◌, ◌&&◌, nat_lt, nat_eq, if◌then◌else◌, [], ◌∷◌, Option, Some, None, length, take, drop, codes}
use Rattle.std.specs.List.{prefix_len, starts_with}
use Rattle.tla_lex.specs.Bytes.{Bytes, first, is_letter, is_backslash}
use Rattle.tla_lex.specs.Words.{Spellings, lookup}
use Rattle.tla_lex.specs.declared.error.LexCode.TheVariants.{Unknown}
use Rattle.tla_lex.specs.declared.lexeme.Lexeme.{Lexeme}
use Rattle.tla_lex.specs.declared.lexeme.Lexeme.TheVariants.{Found, Fault}
use Rattle.tla_lex.specs.declared.token.Kind.{Kind}
use Rattle.tla_lex.specs.declared.token.Kind.TheVariants as kind

abbrev pub symbols : Spellings
symbols =
    (codes "(", kind.LeftParen) ∷ (codes ")", kind.RightParen) ∷ (codes "[", kind.LeftBracket) ∷ (codes "]", kind.RightBracket)
    ∷ (codes "]_", kind.RightBracketSubscript) ∷ (codes "{", kind.LeftBrace) ∷ (codes "}", kind.RightBrace)
    ∷ (codes "<<", kind.LeftTuple) ∷ (codes ">>", kind.RightTuple) ∷ (codes ">>_", kind.RightTupleSubscript)
    ∷ (codes ",", kind.Comma) ∷ (codes ":", kind.Colon) ∷ (codes ".", kind.Dot) ∷ (codes "!", kind.Bang)
    ∷ (codes "@", kind.At) ∷ (codes "'", kind.Prime) ∷ (codes "==", kind.Define) ∷ (codes "|->", kind.MapsTo)
    ∷ (codes "->", kind.Arrow) ∷ (codes "<-", kind.Substitute) ∷ (codes "[]", kind.Box) ∷ (codes "<>", kind.Diamond)
    ∷ (codes "~>", kind.LeadsTo) ∷ (codes "=>", kind.Implies) ∷ (codes "<=>", kind.Equivalent) ∷ (codes "/\\", kind.And)
    ∷ (codes "\\/", kind.Or) ∷ (codes "~", kind.Not) ∷ (codes "=", kind.Equal) ∷ (codes "#", kind.NotEqual)
    ∷ (codes "/=", kind.NotEqual) ∷ (codes "<", kind.Less) ∷ (codes ">", kind.Greater) ∷ (codes "=<", kind.AtMost)
    ∷ (codes "<=", kind.AtMost) ∷ (codes ">=", kind.AtLeast) ∷ (codes "\\", kind.Difference) ∷ (codes "@@", kind.Override)
    ∷ (codes ":>", kind.Pair) ∷ (codes "..", kind.Range) ∷ (codes "+", kind.Plus) ∷ (codes "%", kind.Remainder)
    ∷ (codes "-", kind.Minus) ∷ (codes "*", kind.Times) ∷ (codes "^", kind.Power) ∷ (codes "--", kind.MinusMinus)
    ∷ (codes "-+->", kind.Guarantees) ∷ []

abbrev pub operators : Spellings
operators =
    (codes "\\in", kind.Member) ∷ (codes "\\notin", kind.NotMember) ∷ (codes "\\subseteq", kind.SubsetEqual)
    ∷ (codes "\\cup", kind.Cup) ∷ (codes "\\union", kind.Cup) ∷ (codes "\\cap", kind.Cap) ∷ (codes "\\intersect", kind.Cap)
    ∷ (codes "\\X", kind.Product) ∷ (codes "\\times", kind.Product) ∷ (codes "\\div", kind.Quotient)
    ∷ (codes "\\o", kind.Concatenation) ∷ (codes "\\circ", kind.Concatenation) ∷ (codes "\\leq", kind.AtMost)
    ∷ (codes "\\geq", kind.AtLeast) ∷ (codes "\\equiv", kind.Equivalent) ∷ (codes "\\land", kind.And)
    ∷ (codes "\\lor", kind.Or) ∷ (codes "\\lnot", kind.Not) ∷ (codes "\\neg", kind.Not) ∷ (codes "\\A", kind.ForAll)
    ∷ (codes "\\E", kind.Exists) ∷ (codes "\\AA", kind.TemporalForAll) ∷ (codes "\\EE", kind.TemporalExists)
    ∷ (codes "\\cdot", kind.Composition) ∷ []

abbrev pub found_len : Lexeme → ℕ
found_len (Found k n) = n
found_len (Fault code n) = 0

-- the spelling, where the text begins with it and it is longer than what was found before
abbrev pub pick : Bytes → Lexeme → Bytes × Kind → Lexeme
pick text best e =
    if starts_with nat_eq text e.0 && nat_lt (found_len best) (length e.0) then Found e.1 (length e.0) else best

-- the longest of these spellings at the front of a text
abbrev pub longest : Bytes → Lexeme → Spellings → Lexeme
longest text best [] = best
longest text best (e ∷ es) = longest text (pick text best e) es

-- the first byte and the whole run of letters after it
abbrev pub letters_len : Bytes → ℕ
letters_len text = prefix_len is_letter (drop 1 text) + 1

abbrev pub on_operator : Option Kind → ℕ → Lexeme → Lexeme
on_operator None n other = other
on_operator (Some k) n other = Found k n

-- a backslash and letters are one operator where they are one of the table; else the longest symbol is read
unfoldable pub symbol : Bytes → Lexeme
symbol text =
    let other = longest text (Fault Unknown 0) symbols in
    let n = letters_len text in
    if is_backslash (first text) then on_operator (lookup operators (take n text)) n other else other
