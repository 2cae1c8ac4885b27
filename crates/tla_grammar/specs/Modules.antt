-- The modules that may follow EXTENDS.
use Rattle.std.specs.Prelude.{ℕ, List, Bool, ◌||◌, codes}
use Rattle.std.specs.Str.{bytes_eq}

abbrev pub is_module : List ℕ → Bool
is_module w = bytes_eq w (codes "Naturals") || bytes_eq w (codes "Integers") || bytes_eq w (codes "Sequences") || bytes_eq w (codes "FiniteSets") || bytes_eq w (codes "TLC")
