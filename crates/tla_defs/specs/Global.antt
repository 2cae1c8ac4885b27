-- What the names of a module mean (book, chapters 14 and 17): those with an item by it, its variables by their
-- numbers, and its definitions, each known to the units after it.
use Rattle.std.specs.Prelude.{◌≡◌, ℕ, ◌+◌, Bool, true, false, List, [], ◌∷◌, Some, length}
use Rattle.tla_tree.specs.declared.word.Written.{Written}
use Rattle.tla_tree.specs.Tree.{Tree}
use Rattle.tla_tree.specs.Units.{UnitTree, Variables, Operator, Defines, Local, Assume}
use Rattle.tla_config.specs.Names.{Name, is_among}
use Rattle.tla_config.specs.Statements.{Item}
use Rattle.tla_scopes.specs.Meanings.{Scope, standard, with_name, variable, operator}
use Rattle.tla_scopes.specs.Expand.{expand, definition_in}
use Rattle.tla_names.specs.Scope.{signature}
use Rattle.tla_items.specs.Items.{replaced_names}
use Rattle.tla_defs.specs.Given.{with_items}

abbrev pub with_variable : ℕ → Name → Scope → Scope
with_variable i x σ = with_name x (variable i) σ

-- a name for an expression
abbrev pub with_operator : Name → Tree → Scope → Scope
with_operator x e σ = with_name x (operator [] (expand e) σ) σ

-- the variables from a number on
abbrev pub variables_in : ℕ → List Written → Scope → Scope
variables_in i [] σ = σ
variables_in i (w ∷ ws) σ = variables_in (i + 1) ws (with_variable i w.word σ)

-- what this scope says, where the name is not replaced
abbrev pub unless : Bool → Scope → Scope → Scope
unless true τ σ = σ
unless false τ σ = τ

-- units after n variables, in which these names are replaced
abbrev pub units_in : List Name → ℕ → List UnitTree → Scope → Scope
units_in xs i [] σ = σ
units_in xs i (Variables at ws ∷ us) σ = units_in xs (i + length ws) us (variables_in i ws σ)
units_in xs i (Operator w e ∷ us) σ = units_in xs i us (unless (is_among w.word xs) (with_operator w.word e σ) σ)
units_in xs i (Defines d ∷ us) σ = units_in xs i us (unless (is_among (signature d).0 xs) (definition_in d σ) σ)
units_in xs i (Local at d ∷ us) σ = units_in xs i us (unless (is_among (signature d).0 xs) (definition_in d σ) σ)
units_in xs i (Assume at (Some w) e ∷ us) σ = units_in xs i us (unless (is_among w.word xs) (with_operator w.word e σ) σ)
units_in xs i (u ∷ us) σ = units_in xs i us σ

-- what the names mean, where operators that replace names mean this
abbrev pub meant : List UnitTree → List Item → Scope → Scope
meant us is ρ = units_in (replaced_names is) 0 us (with_items ρ is standard)

-- The scope of a module with items. In it each variable means its number, each definition its body by the units before
-- it, a name with `c = v` the value v, and one with `c <- Op` what Op means in this very scope, wherever it is defined.
abbrev pub IsScopeOf : List UnitTree → List Item → Scope → Type 0
IsScopeOf us is σ = σ ≡ meant us is σ
