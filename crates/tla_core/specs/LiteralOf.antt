-- The expression of a literal: that of its tree.
use Rattle.tla_core.specs.Expr.{Expr}
use Rattle.tla_core.specs.FixedOf.{fixed_of}
use Rattle.tla_core.specs.declared.literal.Literal.{Literal}

abbrev pub literal_of : Literal → Expr
literal_of l = fixed_of l.tree.value
