use Rattle.tla_tree.specs.declared.tree.Expr.{size-Expr}
use Rattle.tla_defs.proofs.conjuncts.+is_conjunction.Given as goal

abbrev pub decreases-is_conjunction : goal.decreases-is_conjunction
decreases-is_conjunction l = size-Expr l.tree.now
