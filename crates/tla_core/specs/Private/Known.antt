-- Parts whose values are known. Only private contracts cite this file.
use Rattle.std.specs.Prelude.{◌≡◌, ℕ, Bool, true, false, List, [], ◌∷◌}
use Rattle.tla_value.specs.Tree.{text}
use Rattle.tla_value.specs.TreeOf.{tree_of}
use Rattle.tla_value.specs.declared.value.Value.{Value}
use Rattle.tla_core.specs.Expr.{Expr, Exprs, Fields, no_exprs, more_exprs, no_fields, more_fields}
use Rattle.tla_core.specs.Value.{means}
use Rattle.tla_core.specs.ExprOf.{expr_of}
use Rattle.tla_core.specs.FixedOf.{fixed_of}
use Rattle.tla_core.specs.Always.{IsAlways}
use Rattle.tla_core.specs.declared.expression.Core.{Core}
use Rattle.tla_core.specs.declared.expression.Core.TheVariants.{Constant, Literal}
use Rattle.tla_core.specs.declared.fixed.Fixed.{Fixed}

-- a constant, or a literal
abbrev pub is_known : Core → Bool
is_known (Constant at v) = true
is_known (Literal l) = true
is_known c = false

abbrev pub IsKnown : Core → Type 0
IsKnown c = is_known c ≡ true

abbrev pub IsKnownField : List ℕ × Core → Type 0
IsKnownField f = IsKnown f.1

abbrev pub HasValue : Core → Value → Type 0
HasValue c v = IsKnown c × IsAlways (means (expr_of c)) (tree_of v)

-- a field with its name and its value
abbrev pub HasField : List ℕ × Core → Value × Value → Type 0
HasField f p = (tree_of p.0 ≡ text f.0) × HasValue f.1 p.1

-- the name and the expression of a field
abbrev pub named_core : List ℕ × Core → List ℕ × Expr
named_core f = (f.0, expr_of f.1)

abbrev pub named_fixed : List ℕ × Fixed → List ℕ × Expr
named_fixed f = (f.0, fixed_of f.1)

-- lists of expressions and of fields, as the data types of nodes
abbrev pub exprs : List Expr → Exprs
exprs [] = no_exprs
exprs (e ∷ es) = more_exprs e (exprs es)

abbrev pub fields : List (List ℕ × Expr) → Fields
fields [] = no_fields
fields (f ∷ fs) = more_fields f.0 f.1 (fields fs)
