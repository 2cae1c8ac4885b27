use Rattle.tla_tree.specs.declared.tree.Expr.{size-Expr}
use Rattle.tla_defs.proofs.parts.+step_in.Given as goal

abbrev pub decreases-step_in : goal.decreases-step_in
decreases-step_in l = size-Expr l.tree.now
