-- The model that the units of a module and the statements of a configuration name (book, chapter 14).
use Rattle.std.specs.Prelude.{◌≡◌, ◌⊎◌, List, [], ◌∷◌, None, length}
use Rattle.std.specs.List.{flat_map}
use Rattle.tla_core.specs.Expr.{Expr}
use Rattle.tla_tree.specs.declared.word.Written.{Written}
use Rattle.tla_tree.specs.Tree.{Tree}
use Rattle.tla_tree.specs.Tree as t
use Rattle.tla_tree.specs.Units.{UnitTree, Assume}
use Rattle.tla_config.specs.Names.{Name}
use Rattle.tla_config.specs.Statements.{Statement, Specification, Init, Next, Invariants, Constraints, items_of, checks_deadlock}
use Rattle.tla_scopes.specs.Meanings.{Scope}
use Rattle.tla_model.specs.ModelTree.{ModelTree}
use Rattle.tla_formulas.specs.Formulas.{IsInitial, IsAction, IsStatePredicate, IsAssumption}
use Rattle.tla_defs.specs.Global.{IsScopeOf}
use Rattle.tla_names.specs.Constants.{AreAssigned}
use Rattle.tla_names.specs.WellScopedModule.{IsWellScopedModule}
use Rattle.tla_items.specs.Items.{definitions_of, replaceable_of, nameable_of, replaced_names, items_misused}
use Rattle.tla_items.specs.References.{references}
use Rattle.tla_items.specs.Cycles.{AreStraight}
use Rattle.tla_names.specs.Named.{AreNamed}
use Rattle.tla_names.specs.Misuses.{variables_of}
use Rattle.tla_defs.specs.Specification.{IsSpecification}

-- each name with its state predicate, in the same order
abbrev pub AreStatePredicates : Scope → List Written → List (Name × Expr) → Type 0
AreStatePredicates σ [] [] = Unit {0}
AreStatePredicates σ [] (p ∷ ps) = ⊥
AreStatePredicates σ (w ∷ ws) [] = ⊥
AreStatePredicates σ (w ∷ ws) (p ∷ ps) = (p.0 ≡ w.word) × IsStatePredicate σ w p.1 × AreStatePredicates σ ws ps

abbrev pub assumed : UnitTree → List Tree
assumed (Assume at w e) = e ∷ []
assumed _ = []

-- what is assumed, with a name or without, in the order of the text
abbrev pub assumptions_of : List UnitTree → List Tree
assumptions_of us = flat_map assumed us

abbrev pub AreAssumptions : Scope → List Tree → List Expr → Type 0
AreAssumptions σ [] [] = Unit {0}
AreAssumptions σ [] (e ∷ es) = ⊥
AreAssumptions σ (t ∷ ts) [] = ⊥
AreAssumptions σ (t ∷ ts) (e ∷ es) = IsAssumption σ t e × AreAssumptions σ ts es

-- the names of SPECIFICATION, of INIT, of NEXT, of INVARIANT and of CONSTRAINT, in the order of the configuration
abbrev pub named_specification : Statement → List Written
named_specification (Specification at w) = w ∷ []
named_specification _ = []

abbrev pub named_initial : Statement → List Written
named_initial (Init at w) = w ∷ []
named_initial _ = []

abbrev pub named_next : Statement → List Written
named_next (Next at w) = w ∷ []
named_next _ = []

abbrev pub named_invariants : Statement → List Written
named_invariants (Invariants at ws) = ws
named_invariants _ = []

abbrev pub named_constraints : Statement → List Written
named_constraints (Constraints at ws) = ws
named_constraints _ = []

abbrev pub specifications_named : List Statement → List Written
specifications_named cs = flat_map named_specification cs

abbrev pub initials_named : List Statement → List Written
initials_named cs = flat_map named_initial cs

abbrev pub nexts_named : List Statement → List Written
nexts_named cs = flat_map named_next cs

abbrev pub invariants_named : List Statement → List Written
invariants_named cs = flat_map named_invariants cs

abbrev pub constraints_named : List Statement → List Written
constraints_named cs = flat_map named_constraints cs

-- exactly one INIT and one NEXT name the initial predicate and the action
pub record IsNamed (cs : List Statement) (initial action : Tree) : Type 0 where
  pub init_name : Written
  pub next_name : Written
  pub one_init : initials_named cs ≡ init_name ∷ []
  pub one_next : nexts_named cs ≡ next_name ∷ []
  pub no_specification : specifications_named cs ≡ []
  pub initial_is : initial ≡ t.Name init_name
  pub action_is : action ≡ t.Name next_name

-- SPECIFICATION alone names a formula that they are parts of
pub record IsSpecified (us : List UnitTree) (cs : List Statement) (σ : Scope) (initial action : Tree) : Type 0 where
  pub name : Written
  pub one_specification : specifications_named cs ≡ name ∷ []
  pub no_init : initials_named cs ≡ []
  pub no_next : nexts_named cs ≡ []
  pub form : IsSpecification us (items_of cs) σ (length (variables_of us)) name initial action

abbrev pub IsBehaviour : List UnitTree → List Statement → Scope → Tree → Tree → Type 0
IsBehaviour us cs σ initial action = IsNamed cs initial action ⊎ IsSpecified us cs σ initial action

-- The module is well scoped, each constant has an item, the configuration names definitions without parameters, no
-- item leads back to its name, and exactly one INIT and one NEXT name the behaviour, or SPECIFICATION alone.
pub record IsModel (us : List UnitTree) (cs : List Statement) (m : ModelTree) : Type 0 where
  pub known : IsWellScopedModule us
  pub given : items_misused (replaceable_of us) (nameable_of us) [] (items_of cs) ≡ None
  pub valued : AreAssigned (replaced_names (items_of cs)) us
  pub named : AreNamed (definitions_of us) cs
  pub straight : AreStraight (references us (items_of cs)) (items_of cs)
  pub scope : Scope
  pub is_scope : IsScopeOf us (items_of cs) scope
  pub initial : Tree
  pub action : Tree
  pub behaviour : IsBehaviour us cs scope initial action
  pub variables : m.variables ≡ variables_of us
  pub assumptions : AreAssumptions scope (assumptions_of us) m.assumptions
  pub init : IsInitial scope initial m.init
  pub next : IsAction scope action m.next
  pub invariants : AreStatePredicates scope (invariants_named cs) m.invariants
  pub constraints : AreStatePredicates scope (constraints_named cs) m.constraints
  pub check_deadlock : m.check_deadlock ≡ checks_deadlock cs
