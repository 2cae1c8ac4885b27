-- A writer to which more bytes were added.
use Rattle.std.specs.Prelude.{ℕ, List, Option}
use Rattle.std.specs.Io.KnownBytes.{Appends}

-- some bytes were added
abbrev pub Grows : Option (List ℕ) → Option (List ℕ) → Type 0
Grows old new = (more : List ℕ) × Appends old new more
