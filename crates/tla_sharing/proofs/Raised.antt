-- A copy of a form of operands is the form of their copies.
use Rattle.std.proofs.Common.{◌≡◌, ℕ, refl, ap}
use Rattle.tla_core.specs.declared.fault.Place.{Place}
use Rattle.tla_core.specs.Expr.{Expr, Exprs, Fields, no_exprs, more_exprs, more_arms, cases}
use Rattle.tla_code.specs.Raise.{raise, raise_all, raise_arms, raise_fields}
use Rattle.tla_code.specs.Forms.{list_expr, field_expr, map_expr, arms_in}
use Rattle.tla_code.specs.declared.code.ListForm.{ListForm}
use Rattle.tla_code.specs.declared.code.ListForm.TheVariants.{Enumerated, Tuple, Conjunction, Disjunction, Product, Cases}
use Rattle.tla_code.specs.declared.code.FieldForm.{FieldForm}
use Rattle.tla_code.specs.declared.code.FieldForm.TheVariants.{Record, Records}
use Rattle.tla_code.specs.declared.code.MapForm.{MapForm}
use Rattle.tla_code.specs.declared.code.MapForm.TheVariants.{Image, Function}

raise-arms : (from by : ℕ) (es : Exprs) → raise_arms from by (arms_in es) ≡ arms_in (raise_all from by es)
raise-arms from by no_exprs = refl
raise-arms from by (more_exprs e no_exprs) = refl
raise-arms from by (more_exprs c (more_exprs e rest)) = ap (more_arms (raise from by c) (raise from by e)) (raise-arms from by rest)

pub raise-list : (from by : ℕ) (f : ListForm) (p : Place) (es : Exprs) → raise from by (list_expr f p es) ≡ list_expr f p (raise_all from by es)
raise-list from by Enumerated p es = refl
raise-list from by Tuple p es = refl
raise-list from by Conjunction p es = refl
raise-list from by Disjunction p es = refl
raise-list from by Product p es = refl
raise-list from by Cases p es = ap (cases p) (raise-arms from by es)

pub raise-field : (from by : ℕ) (f : FieldForm) (p : Place) (fs : Fields) → raise from by (field_expr f p fs) ≡ field_expr f p (raise_fields from by fs)
raise-field from by Record p fs = refl
raise-field from by Records p fs = refl

pub raise-map : (from by : ℕ) (f : MapForm) (p : Place) (es : Exprs) (e : Expr) → raise from by (map_expr f p es e) ≡ map_expr f p (raise_all from by es) (raise from by e)
raise-map from by Image p es e = refl
raise-map from by Function p es e = refl
