-- A tree of constants mentions no variable.
use Rattle.std.proofs.Common.{◌≡◌, sym, subst}
use Rattle.tla_core.specs.ExprOf.{expr_of}
use Rattle.tla_core.specs.FixedOf.{fixed_of, fixed_exprs, fixed_fields}
use Rattle.tla_core.specs.declared.fixed.Fixed.{Fixed, Row_of-Fixed, end_of-Fixed, more_of-Fixed, Row_of-Fixed-Record-1-2, end_of-Fixed-Record-1-2, more_of-Fixed-Record-1-2}
use Rattle.tla_core.specs.declared.fixed.Fixed.TheVariants.{Constant, Enumerated', Tuple', Record'}
use Rattle.tla_core.specs.declared.literal.Literal.{Literal}
use Rattle.tla_core.specs.declared.expression.Core.{Core}
use Rattle.tla_core.specs.declared.expression.Core.TheVariants as cores
use Rattle.tla_code.specs.NoVariables.{HasNoVariables, HaveNoVariables, FieldsHaveNone}
use mathlib.Core.Former.{Count}

mutual
  fixed_steady : (t : Fixed) → HasNoVariables (fixed_of t)
  fixed_steady (Constant at v) = tt
  fixed_steady (Enumerated' at _ parts) = exprs_steady _ parts
  fixed_steady (Tuple' at _ parts) = exprs_steady _ parts
  fixed_steady (Record' at _ fields) = fields_steady _ fields

  exprs_steady : (n : Count) (row : Row_of-Fixed n) → HaveNoVariables (fixed_exprs row)
  exprs_steady n end_of-Fixed = tt
  exprs_steady n (more_of-Fixed e rest) = (fixed_steady e, exprs_steady _ rest)

  fields_steady : (n : Count) (row : Row_of-Fixed-Record-1-2 n) → FieldsHaveNone (fixed_fields row)
  fields_steady n end_of-Fixed-Record-1-2 = tt
  fields_steady n (more_of-Fixed-Record-1-2 name e rest) = (fixed_steady e, fields_steady _ rest)

pub literal_steady : (core : Core) (l : Literal) → core ≡ cores.Literal l → HasNoVariables (expr_of core)
literal_steady core l e = subst (λ k. HasNoVariables (expr_of k)) (sym e) (fixed_steady l.tree.value)
