-- The contents of a string: its bytes, or a shared text.
use Rattle.std.specs.Prelude.{◌≡◌, ◌≤◌, ℕ, List, length, string_bytes, take}
use Rattle.std.specs.Arc.{arc_value}
use Rattle.tla_value.specs.declared.text.Held.{Held}
use Rattle.tla_value.specs.declared.text.Held.TheVariants.{Short, Long}

abbrev pub held_bytes : Held → List ℕ
held_bytes (Short s) = take s.len s.bytes
held_bytes (Long held) = string_bytes (arc_value held)

abbrev pub FitsHeld : Held → Type 0
FitsHeld (Short s) = (s.len ≤ 14) × (length s.bytes ≡ 14)
FitsHeld (Long held) = Unit {0}
