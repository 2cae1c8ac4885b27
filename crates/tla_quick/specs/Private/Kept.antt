-- The closed parts of an expression as definitions in scope, under no names.
use Rattle.std.specs.Prelude.{ℕ, List, map}
use Rattle.tla_core.specs.Expr.{Expr}
use Rattle.tla_code.specs.CodeExpr.{Scope, code_expr, expr_in}
use Rattle.tla_quick.specs.declared.constant.Constant.{Constant}
use Rattle.tla_quick.specs.declared.prepared.Prepared.{Prepared}

abbrev pub definition_of : Constant → ℕ × Expr
definition_of k = (0, code_expr k.code)

abbrev pub scope_with : List Constant → Scope
scope_with ks = map definition_of ks

-- the expression that a prepared code denotes
abbrev pub prepared_expr : Prepared → Expr
prepared_expr p = expr_in (scope_with p.constants.items) p.code
