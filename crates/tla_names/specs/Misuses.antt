-- The first misuse of a name in the units of a module (this project's own choice: the order), and the variables.
use Rattle.std.specs.Prelude.{List, [], ◌∷◌, ◌++◌, Option, Some, None}
use Rattle.std.specs.List.{flat_map}
use Rattle.tla_tree.specs.Units.{UnitTree, Separator, Extends, Variables, Operator, Defines, Local, Constants, Assume, Theorem}
use Rattle.tla_config.specs.Names.{Name, words}
use Rattle.tla_names.specs.Maybe.{or_else}
use Rattle.tla_names.specs.Scope.{Scope, plain, extended, signature}
use Rattle.tla_names.specs.Constants.{constants, misused_constants}
use Rattle.tla_names.specs.Known.{Misuse, brought, new_name, misused, misused_definition}

abbrev pub declared : UnitTree → List Name
declared (Variables at ws) = words ws
declared _ = []

-- the variables, in the order of the text
abbrev pub variables_of : List UnitTree → List Name
variables_of us = flat_map declared us

-- the first misuse in these units, after others that extend modules and bring in names
abbrev pub misuse_from : List Name → Scope → List UnitTree → Option Misuse
misuse_from ms σ [] = None
misuse_from ms σ (Separator at ∷ us) = misuse_from ms σ us
misuse_from ms σ (Extends at ws ∷ us) = misuse_from (ms ++ words ws) (σ ++ extended (words ws)) us
misuse_from ms σ (Variables at ws ∷ us) = or_else (brought σ [] ws) (misuse_from ms (σ ++ plain (words ws)) us)
misuse_from ms σ (Operator w e ∷ us) = or_else (new_name σ w) (or_else (misused ms σ e) (misuse_from ms (σ ++ plain (w.word ∷ [])) us))
misuse_from ms σ (Defines d ∷ us) = or_else (misused_definition ms σ d) (misuse_from ms (σ ++ signature d ∷ []) us)
misuse_from ms σ (Local at d ∷ us) = or_else (misused_definition ms σ d) (misuse_from ms (σ ++ signature d ∷ []) us)
misuse_from ms σ (Assume at None e ∷ us) = or_else (misused ms σ e) (misuse_from ms σ us)
misuse_from ms σ (Assume at (Some w) e ∷ us) = or_else (new_name σ w) (or_else (misused ms σ e) (misuse_from ms (σ ++ plain (w.word ∷ [])) us))
misuse_from ms σ (Constants at ds ∷ us) = or_else (misused_constants σ ds) (misuse_from ms (σ ++ constants ds) us)
-- a theorem says nothing of the model
misuse_from ms σ (Theorem at w e ∷ us) = misuse_from ms σ us

-- The first name of a module, in the order of the text, that is brought in twice, not known, or used with another
-- number of arguments than it takes.
abbrev pub misuse : List UnitTree → Option Misuse
misuse us = misuse_from [] [] us
