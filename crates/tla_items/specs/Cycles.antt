-- Items `c <- Op` that lead back to their name (book, chapter 14; that they are refused: this project's own choice).
use Rattle.std.specs.Prelude.{◌≡◌, ◌⊎◌, List, [], ◌∷◌}
use Rattle.tla_tree.specs.declared.word.Written.{Written}
use Rattle.tla_config.specs.Statements.{Item}
use Rattle.tla_items.specs.Items.{replaced_name}
use Rattle.tla_items.specs.References.{Reference, IsCircular}

module _ (ls : List Reference) where
  -- none of these items is for a name that leads to itself
  abbrev pub AreStraight : List Item → Type 0
  AreStraight [] = Unit {0}
  AreStraight (i ∷ is) = (IsCircular ls (replaced_name i).word → ⊥) × AreStraight is

  -- the first of these names that leads to itself
  abbrev pub IsFirstCycle : List Item → Written → Type 0
  IsFirstCycle [] w = ⊥
  IsFirstCycle (i ∷ is) w = ((replaced_name i ≡ w) × IsCircular ls w.word) ⊎ ((IsCircular ls (replaced_name i).word → ⊥) × IsFirstCycle is w)
