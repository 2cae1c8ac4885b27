-- Lists of expressions, as an expression keeps them.
use Rattle.std.specs.Prelude.{ℕ, List, [], ◌∷◌, map}
use Rattle.std.proofs.Common.{Vec, Global}
use Rattle.tla_core.specs.Expr.{Expr, Exprs, Fields, Arms, Updates, no_exprs, more_exprs, more_arms, no_fields, more_fields, no_updates, more_updates}
use Rattle.tla_core.specs.ExprOf.{expr_of}
use Rattle.tla_core.specs.declared.expression.Core.{Core}

abbrev pub exprs : List Expr → Exprs
exprs [] = no_exprs
exprs (e ∷ es) = more_exprs e (exprs es)

-- these arms, and then the last ones
abbrev pub arms_with : List (Expr × Expr) → Arms → Arms
arms_with [] last = last
arms_with (a ∷ arms) last = more_arms a.0 a.1 (arms_with arms last)

abbrev pub fields_of : List (List ℕ × Expr) → Fields
fields_of [] = no_fields
fields_of (f ∷ fs) = more_fields f.0 f.1 (fields_of fs)

abbrev pub updates_of : List (List Expr × Expr) → Updates
updates_of [] = no_updates
updates_of (u ∷ us) = more_updates (exprs u.0) u.1 (updates_of us)

-- the mathematical value of a field, and of an update, in memory
abbrev pub named_part : List ℕ × Core → List ℕ × Expr
named_part f = (f.0, expr_of f.1)

abbrev pub changed_part : Vec Core Global × Core → List Expr × Expr
changed_part u = (map expr_of u.0.items, expr_of u.1)
