-- The names of parameters. Private contracts alone cite this.
use Rattle.std.specs.Prelude.{◌≡◌, ℕ, zero, suc, true, false, List, [], ◌∷◌}
use Rattle.std.specs.Str.{bytes_eq}
use Rattle.tla_tree.specs.declared.word.Written.{Written}
use Rattle.tla_scopes.specs.Places.{Name}

abbrev pub IsAbsent : Name → List Written → Type 0
IsAbsent x [] = Unit {0}
IsAbsent x (w ∷ ws) = (bytes_eq w.word x ≡ false) × IsAbsent x ws

-- the last parameter of a name
abbrev pub IsLast : Name → List Written → ℕ → Type 0
IsLast x [] i = ⊥
IsLast x (w ∷ ws) zero = (bytes_eq w.word x ≡ true) × IsAbsent x ws
IsLast x (w ∷ ws) (suc i) = IsLast x ws i
