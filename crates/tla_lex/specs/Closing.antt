-- The closing line of a module (book, chapter 15).
use Rattle.std.specs.Prelude.{◌≡◌, ◌<◌, ◌+◌, ℕ, Bool, false, ◌&&◌, ◌||◌, ◌==◌, IsTrue, [], ◌∷◌, ◌++◌, nat_eq, drop, length, codes}
use Rattle.std.specs.List.{starts_with}
use Rattle.tla_lex.specs.Bytes.{Bytes, first, is_quote, is_backslash}
use Rattle.tla_lex.specs.Comments.{opens_line, opens, IsComment}
use Rattle.tla_lex.specs.Strings.{IsClosedString, IsOpenString}

-- `/\` and `\/`
abbrev pub is_junction : ℕ → ℕ → Bool
is_junction b next = (b == 47 && is_backslash next) || (is_backslash b && next == 47)

-- a comment, a string, `/\` or `\/` is at the front
abbrev pub begins_whole : Bytes → Bool
begins_whole [] = false
begins_whole (b ∷ rest) = opens_line b (first rest) || opens b (first rest) || is_quote b || is_junction b (first rest)

-- These bytes, in front of the rest of a text, are whole comments and strings and other bytes. `/\` and `\/` are
-- tokens, so that no comment begins at their second byte.
pub data IsCode : Bytes → Bytes → Type 0 where
  nothing : (rest : Bytes) → IsCode [] rest
  comment : (c w rest : Bytes) → IsComment c (w ++ rest) → IsCode w rest → IsCode (c ++ w) rest
  string : (s w rest : Bytes) → IsClosedString s → IsCode w rest → IsCode (s ++ w) rest
  open_string : (s w rest : Bytes) → IsOpenString s (w ++ rest) → IsCode w rest → IsCode (s ++ w) rest
  junction : (b c : ℕ) (w rest : Bytes) → IsTrue (is_junction b c) → IsCode w rest → IsCode (b ∷ c ∷ w) rest
  other : (b : ℕ) (w rest : Bytes) → begins_whole (b ∷ (w ++ rest)) ≡ false → IsCode w rest → IsCode (b ∷ w) rest

-- At byte `to` there is `====`, outside comments and strings as these are from byte `from` on.
pub record ClosesAt (text : Bytes) (from to : ℕ) : Type 0 where
  pub code : Bytes
  pub rest : Bytes
  pub whole : drop from text ≡ code ++ rest
  pub here : to ≡ from + length code
  pub outside : IsCode code rest
  pub line : IsTrue (starts_with nat_eq rest (codes "===="))

-- The closing line of a module whose header ends at byte `from`: the first run of four or more `=` outside comments
-- and strings.
pub record IsClosingLine (text : Bytes) (from to : ℕ) : Type 0 where
  pub closes : ClosesAt text from to
  pub first : (n : ℕ) → n < to → ClosesAt text from n → ⊥

abbrev pub NoClosingLine : Bytes → ℕ → Type 0
NoClosingLine text from = (n : ℕ) → ClosesAt text from n → ⊥
