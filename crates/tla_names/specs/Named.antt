-- The names that a configuration looks up: each is that of a definition without parameters (this project's own choice).
use Rattle.std.specs.Prelude.{List, [], ◌∷◌, Option, None, All}
use Rattle.std.specs.List.{flat_map}
use Rattle.tla_tree.specs.declared.word.Written.{Written}
use Rattle.tla_config.specs.Statements.{Statement, Specification, Init, Next, Invariants, Constraints, Constants, CheckDeadlock}
use Rattle.tla_names.specs.Maybe.{or_else}
use Rattle.tla_names.specs.Scope.{Scope}
use Rattle.tla_names.specs.Known.{Misuse, used}
use Rattle.tla_names.specs.WellScoped.{Takes}

-- the names of definitions that a statement has
abbrev pub named : Statement → List Written
named (Init at w) = w ∷ []
named (Next at w) = w ∷ []
named (Invariants at ws) = ws
named (Constraints at ws) = ws
named (CheckDeadlock at check) = []
named (Specification at w) = w ∷ []
named (Constants at is) = []

-- each name in these statements is that of a definition without parameters
abbrev pub AreNamed : Scope → List Statement → Type 0
AreNamed σ cs = All (λ w. Takes σ w 0) (flat_map named cs)

-- the misuse of a name that isn't that of a definition without parameters
abbrev pub misnamed : Scope → Written → Option Misuse
misnamed σ w = used σ w 0

abbrev pub each_misnamed : Scope → List Written → Option Misuse
each_misnamed σ [] = None
each_misnamed σ (w ∷ ws) = or_else (misnamed σ w) (each_misnamed σ ws)

-- the first misuse of a name where these are defined
abbrev pub names_misused : Scope → List Statement → Option Misuse
names_misused σ [] = None
names_misused σ (c ∷ cs) = or_else (each_misnamed σ (named c)) (names_misused σ cs)
