-- Names that are known not to lead to themselves. Private contracts alone cite this.
use Rattle.std.specs.Prelude.{◌≡◌, Bool, true, false, List, [], ◌∷◌, if◌then◌else◌}
use Rattle.tla_config.specs.Names.{Name, is_among}
use Rattle.tla_items.specs.References.{Reference, IsCircular}
use Rattle.tla_items.specs.Private.Reached.{Covers}

-- what these lead to is among them, and none of them leads to itself
pub record AreSettled (ls : List Reference) (xs : List Name) : Type 0 where
  pub covers : Covers ls xs xs
  pub straight : (y : Name) → is_among y xs ≡ true → IsCircular ls y → ⊥

-- whether each of these names is one of those
abbrev pub all_among : List Name → List Name → Bool
all_among [] ys = true
all_among (x ∷ xs) ys = if is_among x ys then all_among xs ys else false
