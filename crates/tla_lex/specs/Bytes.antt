-- Bytes of a text, which is a list of them (book, chapter 15).
use Rattle.std.specs.Prelude.{ℕ, Bool, ◌&&◌, ◌||◌, ◌==◌, nat_le, List, slice_index}

abbrev pub Bytes : Type 0
Bytes = List ℕ

-- the first byte, or 0 where there is none
abbrev pub first : Bytes → ℕ
first text = slice_index text 0

abbrev pub is_line_feed : ℕ → Bool
is_line_feed b = b == 10

abbrev pub is_space_or_tab : ℕ → Bool
is_space_or_tab b = b == 32 || b == 9

-- space, tab, line feed, form feed and carriage return
abbrev pub is_blank : ℕ → Bool
is_blank b = is_space_or_tab b || is_line_feed b || b == 12 || b == 13

abbrev pub is_digit : ℕ → Bool
is_digit b = nat_le 48 b && nat_le b 57

abbrev pub is_letter : ℕ → Bool
is_letter b = (nat_le 65 b && nat_le b 90) || (nat_le 97 b && nat_le b 122)

-- a letter, a digit or `_`
abbrev pub is_word : ℕ → Bool
is_word b = is_digit b || is_letter b || b == 95

-- `-`
abbrev pub is_dash : ℕ → Bool
is_dash b = b == 45

-- `=`
abbrev pub is_equal_sign : ℕ → Bool
is_equal_sign b = b == 61

-- `"`
abbrev pub is_quote : ℕ → Bool
is_quote b = b == 34

-- `\`
abbrev pub is_backslash : ℕ → Bool
is_backslash b = b == 92
