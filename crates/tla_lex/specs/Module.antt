-- Where a module begins and ends (book, chapter 15; that text before and after it is ignored is this project's own
-- choice).
use Rattle.std.specs.Prelude.{ℕ, ◌+◌, Bool, false, not, ◌&&◌, ◌||◌, ◌==◌, nat_le, nat_lt, nat_eq, if◌then◌else◌, [], ◌∷◌, Option, Some, None, take, drop, length, codes}
use Rattle.std.specs.List.{prefix_len, starts_with}
use Rattle.tla_lex.specs.Bytes.{Bytes, first, is_dash, is_space_or_tab, is_word, is_quote, is_backslash, is_line_feed}
use Rattle.tla_lex.specs.Gap.{turn}
use Rattle.tla_lex.specs.declared.closing.Region.{Region}
use Rattle.tla_lex.specs.declared.closing.Region.TheVariants.{Code, Text, Escape}
use Rattle.tla_lex.specs.declared.gap.Mode.{Mode}
use Rattle.tla_lex.specs.declared.gap.Mode.TheVariants.{Depth, Second}

-- the word MODULE is at the front
abbrev pub begins_module : Bytes → Bool
begins_module text = starts_with nat_eq text (codes "MODULE") && not (is_word (first (drop 6 text)))

-- how long spaces or tabs and the word MODULE at the front of a text are
abbrev pub module_len : Bytes → Option ℕ
module_len text = let n = prefix_len is_space_or_tab text in if nat_lt 0 n && begins_module (drop n text) then Some (n + 6) else None

abbrev pub on_module : Option ℕ → ℕ → Option ℕ → Option ℕ
on_module None at other = other
on_module (Some n) at other = Some (at + n)

-- The end of the header in a text from byte `at` on, with n dashes right before: four or more dashes, spaces or tabs,
-- MODULE.
unfoldable pub header_from : ℕ → ℕ → Bytes → Option ℕ
header_from dashes at [] = None
header_from dashes at (b ∷ rest) =
    if is_dash b then header_from (dashes + 1) (at + 1) rest
    else on_module (if nat_le 4 dashes then module_len (b ∷ rest) else None) at (header_from 0 (at + 1) rest)

-- where the first header ends
abbrev pub header_end : Bytes → Option ℕ
header_end text = header_from 0 0 text

-- outside comments and strings; `/\` and `\/` are tokens, so that no comment begins at their second byte
abbrev pub region_of_code : ℕ → ℕ → Region
region_of_code b next =
    if is_quote b then Text
    else if (b == 47 && is_backslash next) || (is_backslash b && next == 47) then Code (Second 0)
    else Code (Depth 0)

abbrev pub on_turn : Option Mode → Region → Region
on_turn None other = other
on_turn (Some mode) other = Code mode

-- where a byte leads, which `next` follows: in code or a comment, in a string, or after a backslash in a string
abbrev pub region_after : Region → ℕ → ℕ → Region
region_after (Code mode) b next = on_turn (turn mode b next) (region_of_code b next)
region_after Text b next = if is_line_feed b || is_quote b then Code (Depth 0) else if is_backslash b then Escape else Text
region_after Escape b next = if is_line_feed b then Code (Depth 0) else Text

abbrev pub is_code : Region → Bool
is_code (Code (Depth n)) = n == 0
is_code _ = false

-- the first `====` outside comments and strings, from byte `at` on
unfoldable pub closing_from : Region → ℕ → Bytes → Option ℕ
closing_from region at [] = None
closing_from region at (b ∷ rest) =
    if is_code region && starts_with nat_eq (b ∷ rest) (codes "====") then Some at
    else closing_from (region_after region b (first rest)) (at + 1) rest

-- where the closing line begins, after a header that ends at this byte
abbrev pub closing : Bytes → ℕ → Option ℕ
closing text from = closing_from (Code (Depth 0)) from (drop from text)

abbrev pub end_or : Option ℕ → ℕ → ℕ
end_or None n = n
end_or (Some at) n = at

-- the text up to the closing line, or all of it where there is none
abbrev pub body : Bytes → ℕ → Bytes
body text from = take (end_or (closing text from) (length text)) text
