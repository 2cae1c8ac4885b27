use Rattle.std.proofs.Common.{◌∙◌, ap, sym, arith, Some}
use Rattle.tla_core.specs.Expr.{Expr, opened}
use Rattle.tla_core.specs.ExprOf.{expr_of}
use Rattle.tla_core.specs.declared.expression.Core.{Core}
use Rattle.tla_expand.proofs.Sizes.{opened_some}
use Rattle.tla_expand.proofs.builders.destructure_core.Goals as goal

pub returns-clause-ok : goal.returns-clause-ok
returns-clause-ok c =
    let is = c.destructure.ensures ∙ ap (λ (b : Core). opened c.args.place c.args.openings.items (expr_of b)) c.in_ok-body.ensures.ok in
    opened_some c.args.place c.args.openings.items (expr_of c.args.body) (omega arith) ∙ ap (λ (e : Expr). Some e) (sym is)
