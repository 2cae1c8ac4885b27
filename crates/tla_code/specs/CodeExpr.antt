-- The expression of a code: each use is written out. (This project's own choice: LET definitions of the book, chapter
-- 16, without names.)
use Rattle.std.specs.Prelude.{ℕ, List, [], ◌∷◌, ◌++◌, Option, Some, None, slice_get}
use Rattle.tla_core.specs.declared.fault.Place.{Place}
use Rattle.tla_core.specs.Expr.{Expr, Exprs, Fields, Updates, bound, booleans, except, opened, no_exprs, more_exprs, no_fields, more_fields, no_updates, more_updates}
use Rattle.tla_core.specs.ExprOf.{expr_of}
use Rattle.tla_code.specs.Raise.{raise}
use Rattle.tla_code.specs.Forms.{one_expr, two_expr, three_expr, list_expr, field_expr, binder_expr, map_expr}
use Rattle.tla_code.specs.declared.code.Code.{Code, Row_of-Code, end_of-Code, more_of-Code, Row_of-Code-Fields-2-2, end_of-Code-Fields-2-2, more_of-Code-Fields-2-2, Row_of-Code-Except-2-3, end_of-Code-Except-2-3, more_of-Code-Except-2-3}
use Rattle.tla_code.specs.declared.code.Code.TheVariants.{Plain, Bound, Use, Let', One', Two', Three', List', Fields', Binder', Map', Except', Destructure'}

-- the definitions around an expression, the outermost first: how many names are bound outside each, and its expression
abbrev pub Scope : Type 0
Scope = List (ℕ × Expr)

-- A use under more names is a copy of the definition. A use without a definition is BOOLEAN, so that the function is
-- total; no code has one.
abbrev pub used : Place → ℕ → Option (ℕ × Expr) → Expr
used at by None = booleans at
used at by (Some d) = raise d.0 by d.1

abbrev mutual
  pub expr_in : Scope → Code → Expr
  expr_in scope (Plain core) = expr_of core.now
  expr_in scope (Bound at i) = bound at i
  expr_in scope (Use at number by) = used at by (slice_get scope number)
  expr_in scope (Let' names _ _ d _ e) = expr_in (scope ++ (names, expr_in scope d) ∷ []) e
  expr_in scope (One' at form _ a) = one_expr form at (expr_in scope a)
  expr_in scope (Two' at form _ a _ c) = two_expr form at (expr_in scope a) (expr_in scope c)
  expr_in scope (Three' at form _ a _ c _ d) = three_expr form at (expr_in scope a) (expr_in scope c) (expr_in scope d)
  expr_in scope (List' at form _ parts) = list_expr form at (exprs_in scope parts)
  expr_in scope (Fields' at form _ fields) = field_expr form at (fields_in scope fields)
  expr_in scope (Binder' at form _ a _ e) = binder_expr form at (expr_in scope a) (expr_in scope e)
  expr_in scope (Map' at form _ sets _ e) = map_expr form at (exprs_in scope sets) (expr_in scope e)
  expr_in scope (Except' at _ f _ updates) = except at (expr_in scope f) (updates_in scope updates)
  expr_in scope (Destructure' at openings _ e) = opened at openings.items (expr_in scope e)

  pub exprs_in : {m : _} → Scope → Row_of-Code m → Exprs
  exprs_in scope end_of-Code = no_exprs
  exprs_in scope (more_of-Code e rest) = more_exprs (expr_in scope e) (exprs_in scope rest)

  pub fields_in : {m : _} → Scope → Row_of-Code-Fields-2-2 m → Fields
  fields_in scope end_of-Code-Fields-2-2 = no_fields
  fields_in scope (more_of-Code-Fields-2-2 name e rest) = more_fields name.now (expr_in scope e) (fields_in scope rest)

  pub updates_in : {m : _} → Scope → Row_of-Code-Except-2-3 m → Updates
  updates_in scope end_of-Code-Except-2-3 = no_updates
  updates_in scope (more_of-Code-Except-2-3 _ keys e rest) = more_updates (exprs_in scope keys) (expr_in scope e) (updates_in scope rest)

-- the expression of a code without definitions around it
abbrev pub code_expr : Code → Expr
code_expr c = expr_in [] c
