-- The number of names bound outside each definition of a scope.
use Rattle.std.specs.Prelude.{◌≡◌, ℕ, List, map}
use Rattle.tla_core.specs.Expr.{Expr}
use Rattle.tla_code.specs.CodeExpr.{Scope}

-- `outside` has these numbers
abbrev pub HasNames : Scope → List ℕ → Type 0
HasNames scope outside = map (λ (d : ℕ × Expr). d.0) scope ≡ outside
