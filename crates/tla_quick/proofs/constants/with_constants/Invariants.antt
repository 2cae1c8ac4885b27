use Rattle.std.proofs.Common.{◌≡◌}
use Rattle.tla_code.specs.CodeExpr.{code_expr, expr_in}
use Rattle.tla_quick.specs.Private.Kept.{scope_with}
use Rattle.tla_quick.proofs.constants.with_constants.Given as goal

abbrev pub invariant-loop : goal.invariant-loop
invariant-loop l = expr_in (scope_with l.constants.items) l.rest ≡ code_expr l.fn.code
