-- A group as one expression, and what its value means.
use Rattle.std.specs.Prelude.{◌≡◌, Bool, List, Option, Some, None}
use Rattle.tla_value.specs.Tree.{Tree, truth, fun, pairs}
use Rattle.tla_value.specs.Funs.{values_of}
use Rattle.tla_core.specs.declared.expression.Core.{Core}
use Rattle.tla_core.specs.declared.fault.Place.{Place}
use Rattle.tla_core.specs.Expr.{Expr, conditional, conjunction, disjunction, tuple, no_exprs}
use Rattle.tla_code.specs.Private.Listed.{exprs_of_cores}

-- IF the conditions THEN the tuple of the values ELSE FALSE, as a disjunction of nothing
abbrev pub group_expr : Place → List Core → List Core → Expr
group_expr p conditions values =
    conditional p (conjunction p (exprs_of_cores conditions)) (tuple p (exprs_of_cores values)) (disjunction p no_exprs)

-- a truth value means that a condition is FALSE; a function contains the values
abbrev pub IsAnswer : Tree → Option (List Tree) → Type 0
IsAnswer t None = (h : Bool) × (t ≡ truth h)
IsAnswer t (Some vs) = (ps : List (Tree × Tree)) × (t ≡ fun (pairs ps)) × (values_of ps ≡ vs)
