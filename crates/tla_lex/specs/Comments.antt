-- Comments, and blanks and comments between tokens (book, chapter 15).
use Rattle.std.specs.Prelude.{◌≡◌, ◌≤◌, ℕ, Bool, false, not, ◌&&◌, ◌||◌, ◌==◌, IsTrue, [], ◌∷◌, ◌++◌, take, drop, length, codes}
use Rattle.std.specs.List.{list_all}
use Rattle.tla_lex.specs.Bytes.{Bytes, first, is_blank, is_line_feed, is_backslash}

-- `\*`
abbrev pub opens_line : ℕ → ℕ → Bool
opens_line b next = is_backslash b && next == 42

-- `(*`
abbrev pub opens : ℕ → ℕ → Bool
opens b next = b == 40 && next == 42

-- `*)`
abbrev pub closes : ℕ → ℕ → Bool
closes b next = b == 42 && next == 41

-- What follows the `(*` of a comment, up to and including its own `*)`: whole comments of this kind, and bytes at which
-- neither `(*` nor `*)` begins. So only these two marks count, and `\*` doesn't.
pub data EndsComment : Bytes → Type 0 where
  closed : EndsComment (codes "*)")
  nested : (inner rest : Bytes) → EndsComment inner → EndsComment rest → EndsComment (codes "(*" ++ (inner ++ rest))
  other : (b : ℕ) (rest : Bytes) → opens b (first rest) ≡ false → closes b (first rest) ≡ false → EndsComment rest → EndsComment (b ∷ rest)

abbrev pub is_inline : ℕ → Bool
is_inline b = not (is_line_feed b)

-- the end of a line: a line feed, or the end of the text
abbrev pub IsLineEnd : Bytes → Type 0
IsLineEnd [] = Unit {0}
IsLineEnd (b ∷ rest) = IsTrue (is_line_feed b)

-- These bytes are a comment, in front of the rest of a text: `\*` to the end of the line, or `(* .. *)`.
pub data IsComment : Bytes → Bytes → Type 0 where
  line : (w rest : Bytes) → IsTrue (list_all is_inline w) → IsLineEnd rest → IsComment (codes "\\*" ++ w) rest
  block : (w rest : Bytes) → EndsComment w → IsComment (codes "(*" ++ w) rest

-- These bytes, in front of the rest of a text, are blanks and comments, one after the other.
pub data IsGap : Bytes → Bytes → Type 0 where
  nothing : (rest : Bytes) → IsGap [] rest
  blank : (b : ℕ) (w rest : Bytes) → IsTrue (is_blank b) → IsGap w rest → IsGap (b ∷ w) rest
  comment : (c w rest : Bytes) → IsComment c (w ++ rest) → IsGap w rest → IsGap (c ++ w) rest

-- a blank, `\*` or `(*` is at the front
abbrev pub begins_gap : Bytes → Bool
begins_gap [] = false
begins_gap (b ∷ rest) = is_blank b || opens_line b (first rest) || opens b (first rest)

-- `(*` is at the front, and no comment ends after it
abbrev pub StaysOpen : Bytes → Type 0
StaysOpen text = (behind : Bytes) × (text ≡ codes "(*" ++ behind) × ((w rest : Bytes) → behind ≡ w ++ rest → EndsComment w → ⊥)

-- The first n bytes of a text are blanks and comments, and no further one begins after them.
pub record IsLeadingGap (text : Bytes) (n : ℕ) : Type 0 where
  pub within : n ≤ length text
  pub gap : IsGap (take n text) (drop n text)
  pub longest : begins_gap (drop n text) ≡ false

-- After n bytes of blanks and comments there is a comment that stays open.
pub record IsOpenComment (text : Bytes) (n : ℕ) : Type 0 where
  pub within : n ≤ length text
  pub gap : IsGap (take n text) (drop n text)
  pub stays_open : StaysOpen (drop n text)
