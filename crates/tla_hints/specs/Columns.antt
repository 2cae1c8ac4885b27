-- Columns of a line. (This project's own choice.)
use Rattle.std.specs.Prelude.{ℕ, ◌+◌, ◌*◌, ◌-◌, ◌/◌, ◌==◌, if◌then◌else◌, List, [], ◌∷◌}
use Rattle.tla_lex.specs.Places.{is_inner}

-- the column after a byte: columns count characters, and a tab leads to the next column of the form 8n + 1
abbrev pub column_after : ℕ → ℕ → ℕ
column_after column b =
    if b == 9 then (column - 1) / 8 * 8 + 9
    else if is_inner b then column
    else column + 1

abbrev pub column_from : ℕ → List ℕ → ℕ
column_from column [] = column
column_from column (b ∷ bs) = column_from (column_after column b) bs

-- the column after bytes that begin a line and have no line feed
abbrev pub column_behind : List ℕ → ℕ
column_behind bytes = column_from 1 bytes
