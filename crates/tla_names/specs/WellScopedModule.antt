-- Which modules are well scoped (book, chapter 17).
use Rattle.std.specs.Prelude.{List, [], ◌∷◌, ◌++◌, Some, None, map}
use Rattle.tla_tree.specs.Units.{UnitTree, Separator, Extends, Variables, Operator, Defines, Local, Constants, Assume, Theorem, Declared}
use Rattle.tla_config.specs.Names.{Name, words}
use Rattle.tla_names.specs.Scope.{Scope, plain, extended, signature}
use Rattle.tla_names.specs.Constants.{constants}
use Rattle.tla_names.specs.WellScoped.{IsNew, AreNew, IsWellScoped, IsWellScopedDefinition}

-- the modules that a unit extends
abbrev pub modules_of : UnitTree → List Name
modules_of (Extends at ws) = words ws
modules_of _ = []

-- the names that a unit brings into scope, for the units after it
abbrev pub signatures_of : UnitTree → Scope
signatures_of (Extends at ws) = extended (words ws)
signatures_of (Variables at ws) = plain (words ws)
signatures_of (Constants at ds) = constants ds
signatures_of (Operator w e) = (w.word, 0) ∷ []
signatures_of (Defines d) = signature d ∷ []
signatures_of (Local at d) = signature d ∷ []
signatures_of (Assume at (Some w) e) = (w.word, 0) ∷ []
signatures_of _ = []

-- A unit is well scoped, where these modules are extended and these names are in scope. Modules that are extended may
-- bring in the same name, and a theorem says nothing of the model.
abbrev pub IsWellScopedUnit : List Name → Scope → UnitTree → Type 0
IsWellScopedUnit ms σ (Separator at) = Unit {0}
IsWellScopedUnit ms σ (Extends at ws) = Unit {0}
IsWellScopedUnit ms σ (Variables at ws) = AreNew σ (words ws)
IsWellScopedUnit ms σ (Constants at ds) = AreNew σ (map (λ (d : Declared). d.0.word) ds)
IsWellScopedUnit ms σ (Operator w e) = IsNew σ w.word × IsWellScoped ms σ e
IsWellScopedUnit ms σ (Defines d) = IsWellScopedDefinition ms σ d
IsWellScopedUnit ms σ (Local at d) = IsWellScopedDefinition ms σ d
IsWellScopedUnit ms σ (Assume at None e) = IsWellScoped ms σ e
IsWellScopedUnit ms σ (Assume at (Some w) e) = IsNew σ w.word × IsWellScoped ms σ e
IsWellScopedUnit ms σ (Theorem at w e) = Unit {0}

-- units in order: what each brings in is in scope for those after it
abbrev pub AreWellScopedUnits : List Name → Scope → List UnitTree → Type 0
AreWellScopedUnits ms σ [] = Unit {0}
AreWellScopedUnits ms σ (u ∷ us) = IsWellScopedUnit ms σ u × AreWellScopedUnits (ms ++ modules_of u) (σ ++ signatures_of u) us

-- A module is well scoped: its units are, where nothing is extended and no name is in scope before them.
abbrev pub IsWellScopedModule : List UnitTree → Type 0
IsWellScopedModule us = AreWellScopedUnits [] [] us
