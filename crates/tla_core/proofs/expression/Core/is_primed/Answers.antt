use Rattle.std.proofs.Common.{◌∙◌}
use Rattle.tla_core.specs.ExprOf.{expr_of}
use Rattle.tla_core.proofs.Next.{next_is}
use Rattle.tla_core.proofs.expression.Core.is_primed.Goals as goal

pub returns-clause-next : goal.returns-clause-next
returns-clause-next c = c.has_next.ensures ∙ next_is (expr_of c.args.self.now)
