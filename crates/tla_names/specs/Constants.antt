-- Constants of a module, and those that have no value (book, chapter 14).
use Rattle.std.specs.Prelude.{List, [], ◌∷◌, ◌++◌, Option, Some, None, map, if◌then◌else◌, All, Contains}
use Rattle.std.specs.List.{flat_map}
use Rattle.tla_tree.specs.declared.word.Written.{Written}
use Rattle.tla_tree.specs.Units.{UnitTree, Declared, Constants}
use Rattle.tla_config.specs.Names.{Name, is_among}
use Rattle.tla_names.specs.Maybe.{or_else}
use Rattle.tla_names.specs.Scope.{Scope}
use Rattle.tla_names.specs.Known.{Misuse, new_name}

abbrev pub constants : List Declared → Scope
constants ds = map (λ (d : Declared). (d.0.word, d.1)) ds

-- the first of these names that is in scope already
abbrev pub misused_constants : Scope → List Declared → Option Misuse
misused_constants σ [] = None
misused_constants σ (d ∷ ds) = or_else (new_name σ d.0) (misused_constants (σ ++ (d.0.word, d.1) ∷ []) ds)

abbrev pub constants_in : UnitTree → List Declared
constants_in (Constants at ds) = ds
constants_in _ = []

-- each constant of these units is among the names that have an item
abbrev pub AreAssigned : List Name → List UnitTree → Type 0
AreAssigned xs us = All (λ (d : Declared). Contains xs d.0.word) (flat_map constants_in us)

-- the first of these that has no item
abbrev pub first_unvalued : List Name → List Declared → Option Written
first_unvalued xs [] = None
first_unvalued xs (d ∷ ds) = if is_among d.0.word xs then first_unvalued xs ds else Some d.0

abbrev pub declared_unvalued : List Name → UnitTree → Option Written
declared_unvalued xs (Constants at ds) = first_unvalued xs ds
declared_unvalued xs _ = None

-- the first constant that has no value, where these names have an item
abbrev pub unvalued : List Name → List UnitTree → Option Written
unvalued xs [] = None
unvalued xs (u ∷ us) = or_else (declared_unvalued xs u) (unvalued xs us)
