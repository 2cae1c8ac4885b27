-- A tree of constants is its own copy: it has no names.
use Rattle.std.proofs.Common.{◌≡◌, ℕ, refl, ap, sym, ◌∙◌}
use Rattle.tla_core.specs.Expr.{enumerated, tuple, record_of, more_exprs, more_fields}
use Rattle.tla_core.specs.ExprOf.{expr_of}
use Rattle.tla_core.specs.FixedOf.{fixed_of, fixed_exprs, fixed_fields}
use Rattle.tla_core.specs.LiteralOf.{literal_of}
use Rattle.tla_core.specs.declared.fixed.Fixed.{Fixed, Row_of-Fixed, end_of-Fixed, more_of-Fixed, Row_of-Fixed-Record-1-2, end_of-Fixed-Record-1-2, more_of-Fixed-Record-1-2}
use Rattle.tla_core.specs.declared.fixed.Fixed.TheVariants.{Constant, Enumerated', Tuple', Record'}
use Rattle.tla_core.specs.declared.literal.Literal.{Literal}
use Rattle.tla_core.specs.declared.expression.Core.{Core}
use Rattle.tla_core.specs.declared.expression.Core.TheVariants as cores
use Rattle.tla_code.specs.Raise.{raise, raise_all, raise_fields}
use mathlib.Core.Former.{Count}

module _ (from by : ℕ) where
  mutual
    raised_fixed : (t : Fixed) → raise from by (fixed_of t) ≡ fixed_of t
    raised_fixed (Constant at v) = refl
    raised_fixed (Enumerated' at _ parts) = ap (enumerated at) (raised_exprs _ parts)
    raised_fixed (Tuple' at _ parts) = ap (tuple at) (raised_exprs _ parts)
    raised_fixed (Record' at _ fields) = ap (record_of at) (raised_fields _ fields)

    raised_exprs : (n : Count) (row : Row_of-Fixed n) → raise_all from by (fixed_exprs row) ≡ fixed_exprs row
    raised_exprs n end_of-Fixed = refl
    raised_exprs n (more_of-Fixed e rest) = ap (λ x. more_exprs x (raise_all from by (fixed_exprs rest))) (raised_fixed e) ∙ ap (more_exprs (fixed_of e)) (raised_exprs _ rest)

    raised_fields : (n : Count) (row : Row_of-Fixed-Record-1-2 n) → raise_fields from by (fixed_fields row) ≡ fixed_fields row
    raised_fields n end_of-Fixed-Record-1-2 = refl
    raised_fields n (more_of-Fixed-Record-1-2 name e rest) = ap (λ x. more_fields name x (raise_fields from by (fixed_fields rest))) (raised_fixed e) ∙ ap (more_fields name (fixed_of e)) (raised_fields _ rest)

pub literal_copies : (original copy : Core) (l m : Literal) → original ≡ cores.Literal l → copy ≡ cores.Literal m → literal_of l ≡ literal_of m → (from by : ℕ) → expr_of copy ≡ raise from by (expr_of original)
literal_copies original copy l m e d h from by =
    ap expr_of d
    ∙ sym h
    ∙ sym (raised_fixed from by l.tree.value)
    ∙ sym (ap (λ k. raise from by (expr_of k)) e)
