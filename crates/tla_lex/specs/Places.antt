-- Lines and columns (this project's own choice).
use Rattle.std.specs.Prelude.{ℕ, ◌+◌, ◌*◌, ◌-◌, ◌/◌, Bool, ◌&&◌, ◌==◌, nat_le, nat_lt, if◌then◌else◌, [], ◌∷◌, take}
use Rattle.tla_lex.specs.declared.token.Place.{Place}
use Rattle.tla_lex.specs.Bytes.{Bytes, is_line_feed}

-- a byte inside a character, after its first
abbrev pub is_inner : ℕ → Bool
is_inner b = nat_le 128 b && nat_lt b 192

-- the place after a byte: a line feed ends a line, a tab leads to the next column of the form 8n + 1, and columns
-- count characters
abbrev pub advance : Place → ℕ → Place
advance p b =
    if is_line_feed b then record { line = p.line + 1; column = 1 }
    else if b == 9 then record { line = p.line; column = (p.column - 1) / 8 * 8 + 9 }
    else if is_inner b then p
    else record { line = p.line; column = p.column + 1 }

abbrev pub advance_all : Place → Bytes → Place
advance_all p [] = p
advance_all p (b ∷ bs) = advance_all (advance p b) bs

abbrev pub first_place : Place
first_place = record { line = 1; column = 1 }

-- the place of the byte with this number, from 0
unfoldable pub place_at : Bytes → ℕ → Place
place_at text at = advance_all first_place (take at text)
