use Rattle.std.proofs.Common.{ap}
use Rattle.tla_value.specs.TreeOf.{tree_of}
use Rattle.tla_core.specs.ExprOf.{expr_of}
use Rattle.tla_core.specs.Value.{means}
use Rattle.tla_core.specs.Private.Known.{is_known}
use Rattle.tla_core.proofs.FixedTrees.{literal_value}
use Rattle.tla_core.proofs.making.known_value.Goals as goal

pub returns-in-Constant : goal.returns-in-Constant
returns-in-Constant c = (ap is_known c.in-Constant.is, λ b s t. ap (λ k. (means (expr_of k)).value b s t) c.in-Constant.is)

pub returns-in-Literal : goal.returns-in-Literal
returns-in-Literal c = (ap is_known c.in-Literal.is, literal_value c.args.core.now c.in-Literal.literal (tree_of c.value.result.now) c.in-Literal.is c.value.ensures)
