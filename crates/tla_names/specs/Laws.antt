-- The laws of names: what is well scoped has no misuse, and what has no misuse is well scoped.
use Rattle.std.specs.Prelude.{◌≡◌, ◌↔◌, List, None}
use Rattle.tla_tree.specs.Tree.{Tree}
use Rattle.tla_tree.specs.Units.{UnitTree}
use Rattle.tla_config.specs.Names.{Name}
use Rattle.tla_config.specs.Statements.{Statement}
use Rattle.tla_names.specs.Scope.{Scope}
use Rattle.tla_names.specs.WellScoped.{IsWellScoped}
use Rattle.tla_names.specs.WellScopedModule.{IsWellScopedModule}
use Rattle.tla_names.specs.Known.{misused}
use Rattle.tla_names.specs.Misuses.{misuse}
use Rattle.tla_names.specs.Named.{AreNamed, names_misused}
use Rattle.tla_names.specs.Constants.{AreAssigned, unvalued}

-- an expression is well scoped exactly if it has no misuse
abbrev pub ExpressionIsWellScoped : Type 0
ExpressionIsWellScoped = (ms : List Name) (σ : Scope) (e : Tree) → IsWellScoped ms σ e ↔ (misused ms σ e ≡ None)

-- a module is well scoped exactly if it has no misuse
abbrev pub ModuleIsWellScoped : Type 0
ModuleIsWellScoped = (us : List UnitTree) → IsWellScopedModule us ↔ (misuse us ≡ None)

-- the statements of a configuration name definitions without parameters exactly if they have no misuse
abbrev pub StatementsAreNamed : Type 0
StatementsAreNamed = (σ : Scope) (cs : List Statement) → AreNamed σ cs ↔ (names_misused σ cs ≡ None)

-- each constant has an item exactly if none is without
abbrev pub ConstantsAreAssigned : Type 0
ConstantsAreAssigned = (xs : List Name) (us : List UnitTree) → AreAssigned xs us ↔ (unvalued xs us ≡ None)
