-- What is checked: the variables, the assumptions, the behaviour, the invariants and the constraints (book, chapter
-- 14).
use Rattle.std.specs.Prelude.{ℕ, Bool, List}
use Rattle.tla_core.specs.Expr.{Expr}

-- names are their bytes
pub record ModelTree : Type 0 where
  pub variables : List (List ℕ)
  pub assumptions : List Expr
  -- its variables are next values, so that it is read like an action
  pub init : Expr
  pub next : Expr
  pub invariants : List (List ℕ × Expr)
  -- only states at which each is TRUE have successors
  pub constraints : List (List ℕ × Expr)
  pub check_deadlock : Bool
