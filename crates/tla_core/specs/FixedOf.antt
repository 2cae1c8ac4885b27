-- The expression of a tree of constants, without pointers, and with values as trees.
use Rattle.tla_value.specs.TreeOf.{tree_of}
use Rattle.tla_core.specs.Expr.{Expr, Exprs, Fields, constant, enumerated, tuple, record_of, no_exprs, more_exprs, no_fields, more_fields}
use Rattle.tla_core.specs.declared.fixed.Fixed.{Fixed, Row_of-Fixed, end_of-Fixed, more_of-Fixed, Row_of-Fixed-Record-1-2, end_of-Fixed-Record-1-2, more_of-Fixed-Record-1-2}
use Rattle.tla_core.specs.declared.fixed.Fixed.TheVariants.{Constant, Enumerated', Tuple', Record'}

abbrev mutual
  pub fixed_of : Fixed → Expr
  fixed_of (Constant at v) = constant at (tree_of v)
  fixed_of (Enumerated' at _ parts) = enumerated at (fixed_exprs parts)
  fixed_of (Tuple' at _ parts) = tuple at (fixed_exprs parts)
  fixed_of (Record' at _ fields) = record_of at (fixed_fields fields)

  pub fixed_exprs : {m : _} → Row_of-Fixed m → Exprs
  fixed_exprs end_of-Fixed = no_exprs
  fixed_exprs (more_of-Fixed e rest) = more_exprs (fixed_of e) (fixed_exprs rest)

  pub fixed_fields : {m : _} → Row_of-Fixed-Record-1-2 m → Fields
  fixed_fields end_of-Fixed-Record-1-2 = no_fields
  fixed_fields (more_of-Fixed-Record-1-2 name e rest) = more_fields name (fixed_of e) (fixed_fields rest)
