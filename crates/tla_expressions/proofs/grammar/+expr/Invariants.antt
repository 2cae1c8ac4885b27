use Rattle.tla_expressions.proofs.grammar.+expr.Given as goal

abbrev pub decreases-expr : goal.decreases-expr
decreases-expr l = l.depth
