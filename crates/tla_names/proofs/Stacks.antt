-- Names in scope as a stack.
use Rattle.std.proofs.Common.{◌≡◌, ◌++◌, List, [], ◌∷◌, Option, Some, None, arith, map, take, length, refl}
use Rattle.std.proofs.Math.Seq.{take-append_seam}
use Rattle.tla_tree.specs.declared.tree.Expr.{Expr}
use Rattle.tla_tree.specs.Tree.{trees}
use Rattle.tla_tree.specs.View.{view}
use Rattle.tla_names.specs.Maybe.{or_else}
use Rattle.tla_names.specs.Known.{Misuse}
use Rattle.tla_names.specs.Scope.{Scope, count}

-- what was pushed since is cut off
pub cut_back : (σ τ : Scope) → take (length σ) (σ ++ τ) ≡ σ
cut_back σ τ = take-append_seam σ τ

pub count_trees : (es : List Expr) → count (trees (map view es)) ≡ length es
count_trees [] = refl
count_trees (e ∷ es) = let h = count_trees es in omega (arith, h)

pub or_else_none : (o : Option Misuse) → or_else o None ≡ o
or_else_none None = refl
or_else_none (Some m) = refl
