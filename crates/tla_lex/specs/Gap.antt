-- The loop that passes over blanks and comments, byte by byte; `Comments` says what these are, and a law that the
-- loop finds them.
use Rattle.std.specs.Prelude.{ℕ, zero, suc, ◌+◌, Bool, true, false, nat_lt, if◌then◌else◌, [], ◌∷◌, Option, Some, None}
use Rattle.tla_lex.specs.Bytes.{Bytes, first, is_blank, is_line_feed}
use Rattle.tla_lex.specs.Comments.{opens_line, opens, closes}
use Rattle.tla_lex.specs.declared.gap.Mode.{Mode}
use Rattle.tla_lex.specs.declared.gap.Mode.TheVariants.{Line, Depth, Second}
use Rattle.tla_lex.specs.declared.gap.Gap.{Gap}
use Rattle.tla_lex.specs.declared.gap.Gap.TheVariants.{End, Open}

-- Where a byte leads, which `next` follows: in a comment to the end of the line, in nested comments of a depth, or at
-- the second byte of a mark that leads there. `None` if a token begins.
abbrev pub turn : Mode → ℕ → ℕ → Option Mode
turn Line b next = if is_line_feed b then Some (Depth 0) else Some Line
turn (Second n) b next = Some (Depth n)
turn (Depth zero) b next =
    if is_blank b then Some (Depth 0)
    else if opens_line b next then Some Line
    else if opens b next then Some (Second 1)
    else None
turn (Depth (suc n)) b next =
    if opens b next then Some (Second (n + 2))
    else if closes b next then Some (Second n)
    else Some (Depth (n + 1))

-- outside comments
abbrev pub is_outside : Mode → Bool
is_outside (Depth zero) = true
is_outside _ = false

-- the end of the text leaves a comment open
abbrev pub is_open : Mode → Bool
is_open Line = false
is_open (Depth n) = nat_lt 0 n
is_open (Second n) = nat_lt 0 n

abbrev pub on_turn : Option Mode → Gap → (Mode → Gap) → Gap
on_turn None stop go = stop
on_turn (Some mode) stop go = go mode

-- The gap in a text from byte `at` on; `opening` is where the outermost comment opened.
unfoldable pub skip : Mode → ℕ → ℕ → Bytes → Gap
skip mode opening at [] = if is_open mode then Open opening else End at
skip mode opening at (b ∷ rest) =
    on_turn (turn mode b (first rest)) (End at) (λ to. skip to (if is_outside mode then at else opening) (at + 1) rest)

-- how long the blanks and comments at the front of a text are, or where a comment begins that stays open
abbrev pub gap : Bytes → Gap
gap text = skip (Depth 0) 0 0 text
