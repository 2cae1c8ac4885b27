use Rattle.tla_code.proofs.SteadyLiterals.{literal_steady}
use Rattle.tla_code.proofs.steady.is_steady_leaf.Goals as goal

pub returns-in-Literal : goal.returns-in-Literal
returns-in-Literal c = λ h. literal_steady c.args.core.now c.in-Literal.field-0 c.in-Literal.is
