-- The formulas of a model: the formula of a name of the configuration, and the levels of expressions (book, chapter
-- 17).
use Rattle.std.specs.Prelude.{◌≡◌, true, is_some, Option, Some}
use Rattle.tla_core.specs.Expr.{Expr}
use Rattle.tla_tree.specs.declared.word.Written.{Written}
use Rattle.tla_tree.specs.Tree.{Tree}
use Rattle.tla_tree.specs.Tree as t
use Rattle.tla_scopes.specs.Primes.{primes}
use Rattle.tla_scopes.specs.declared.primes.Primes.TheVariants.{Once, Twice}
use Rattle.tla_scopes.specs.Meanings.{Scope}
use Rattle.tla_scopes.specs.Expand.{expand}
use Rattle.tla_model.specs.Size.{IsWithinLimits}

-- the formula of a name of the configuration, in this scope of the module
abbrev pub meaning_in : Scope → Written → Option Expr
meaning_in σ w = expand (t.Name w) σ 0

-- of state level: it can be primed, since no variable in it is primed
abbrev pub IsStateLevel : Expr → Type 0
IsStateLevel e = is_some (primes Once e) ≡ true

-- of constant level: it mentions no variable, so primes don't change it
abbrev pub IsConstantLevel : Expr → Type 0
IsConstantLevel e = primes Twice e ≡ Some e

-- an initial predicate: a formula of state level, primed
pub record IsInitial (σ : Scope) (t : Tree) (e : Expr) : Type 0 where
  pub before : Expr
  pub meaning : expand t σ 0 ≡ Some before
  pub primed : primes Once before ≡ Some e
  pub limits : IsWithinLimits e

pub record IsAction (σ : Scope) (t : Tree) (e : Expr) : Type 0 where
  pub meaning : expand t σ 0 ≡ Some e
  pub limits : IsWithinLimits e

-- an invariant or a constraint: a formula of state level
pub record IsStatePredicate (σ : Scope) (w : Written) (e : Expr) : Type 0 where
  pub meaning : meaning_in σ w ≡ Some e
  pub level : IsStateLevel e
  pub limits : IsWithinLimits e

-- an assumption: of constant level
pub record IsAssumption (σ : Scope) (t : Tree) (e : Expr) : Type 0 where
  pub expanded : expand t σ 0 ≡ Some e
  pub level : IsConstantLevel e
  pub limits : IsWithinLimits e
