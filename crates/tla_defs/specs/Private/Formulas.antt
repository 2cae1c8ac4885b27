-- The formulas of a model, as the code finds them. Private contracts alone cite this.
use Rattle.std.specs.Prelude.{◌⊎◌, List, [], ◌∷◌, ◌++◌, map}
use Rattle.std.specs.Borrow.{Bor}
use Rattle.tla_core.specs.Expr.{Expr}
use Rattle.tla_tree.specs.declared.word.Written.{Written}
use Rattle.tla_tree.specs.Tree.{Tree}
use Rattle.tla_config.specs.Names.{Name}
use Rattle.tla_scopes.specs.Meanings.{Scope}
use Rattle.tla_formulas.specs.Formulas.{IsStatePredicate, IsAssumption}
use Rattle.tla_defs.specs.Model.{AreStatePredicates}

-- names in memory
abbrev pub mentions : List (Bor Written) → List Written
mentions ws = map (λ (w : Bor Written). w.now) ws

-- Whatever are the state predicates of the names that are left, those that are found and these are the state
-- predicates of all names.
abbrev pub Follow : Scope → List Written → List Written → List (Name × Expr) → Type 0
Follow σ left all found = (ps : List (Name × Expr)) → AreStatePredicates σ left ps → AreStatePredicates σ all (found ++ ps)

-- one of these names is no state predicate
abbrev pub LacksPredicate : Scope → List Written → Type 0
LacksPredicate σ [] = ⊥
LacksPredicate σ (w ∷ ws) = ((e : Expr) → IsStatePredicate σ w e → ⊥) ⊎ LacksPredicate σ ws

-- one of these is no assumption of a model
abbrev pub LacksAssumption : Scope → List Tree → Type 0
LacksAssumption σ [] = ⊥
LacksAssumption σ (t ∷ ts) = ((e : Expr) → IsAssumption σ t e → ⊥) ⊎ LacksAssumption σ ts
