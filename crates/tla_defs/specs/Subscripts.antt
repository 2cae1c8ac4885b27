-- Subscripts that cover the variables: v of [][A]_v (book, chapter 8).
use Rattle.std.specs.Prelude.{◌≡◌, ℕ, true, Some}
use Rattle.tla_core.specs.Expr.{Expr}
use Rattle.tla_tree.specs.Tree.{Tree}
use Rattle.tla_expand.specs.Covers.{covers}
use Rattle.tla_scopes.specs.Meanings.{Scope}
use Rattle.tla_scopes.specs.Expand.{expand}

-- a formula whose expansion covers n variables, however large it is: the limits are those of formulas
pub record IsCover (σ : Scope) (variables : ℕ) (subscript : Tree) : Type 0 where
  pub names : Expr
  pub expanded : expand subscript σ 0 ≡ Some names
  pub all : covers variables names ≡ true
