-- The edit distance of two names: the least number of characters to insert, delete or replace (Levenshtein 1966).
use Rattle.std.specs.Prelude.{ℕ, List, length, nat_eq}
use Rattle.strsim.specs.Edits.{levenshtein_row}
use Rattle.std.specs.Str.{chars}

abbrev pub distance : List ℕ → List ℕ → ℕ
distance from to = levenshtein_row nat_eq (chars from) (chars to) (length (chars to))
