-- Lines of a text: the texts between line feeds.
use Rattle.std.specs.Prelude.{ℕ, ◌≡◌, ◌+◌, ◌≤◌, ◌==◌, Bool, not, List, length, take, drop, count_by, ◌⊎◌, slice_index, ◌-◌}
use Rattle.std.specs.List.{take_while}

abbrev pub is_line_feed : ℕ → Bool
is_line_feed b = b == 10

-- how many line feeds come before a byte
abbrev pub feeds_before : List ℕ → ℕ → ℕ
feeds_before text at = count_by is_line_feed (take at text)

-- the line with this number begins at this byte
pub record BeginsAt (text : List ℕ) (number at : ℕ) : Type 0 where
  pub within : at ≤ length text
  pub first : (at ≡ 0) ⊎ (slice_index text (at - 1) ≡ 10)
  pub counted : feeds_before text at + 1 ≡ number

-- the line from a byte on, up to its line feed
abbrev pub line_at : List ℕ → ℕ → List ℕ
line_at text at = take_while (λ b. not (is_line_feed b)) (drop at text)
