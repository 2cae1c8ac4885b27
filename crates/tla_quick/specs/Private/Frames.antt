-- The frames of an environment: the values of the bound names, and the definitions.
use Rattle.std.specs.Prelude.{◌≡◌, ℕ, [], ◌∷◌, ◌++◌, length, map, Option, Some, None, Ok, slice_get}
use Rattle.std.specs.Coded.{Coded-set}
use Rattle.std.proofs.Props.{props}
use Rattle.std.proofs.Common.{Bor}
use Rattle.tla_value.specs.Tree.{Tree}
use Rattle.tla_value.specs.TreeOf.{tree_of}
use Rattle.tla_value.specs.Stored.{coded_tree}
use Rattle.tla_value.specs.declared.value.Value.{Value}
use Rattle.tla_core.specs.contracts.fault.Fault as fault
use Rattle.tla_core.specs.declared.fault.Fault.{Fault}
use Rattle.tla_core.specs.Fault.{Outcome}
use Rattle.tla_core.specs.Expr.{Expr}
use Rattle.tla_core.specs.Meaning.{Bound, Present, Next}
use Rattle.tla_core.specs.Value.{val}
use Rattle.tla_code.specs.CodeExpr.{Scope, expr_in}
use Rattle.tla_quick.specs.Private.Kept.{scope_with}
use Rattle.tla_quick.specs.declared.frame.Frame.{Frame}
use Rattle.tla_quick.specs.declared.frame.Frame.TheVariants.{Outer, One', Many', Defined'}

-- the values of the bound names, the outermost first
abbrev pub bound_of : Frame → Bound
bound_of (Outer _) = []
bound_of (One' _ outer _ value) = bound_of outer ++ tree_of value.now ∷ []
bound_of (Many' _ outer _ values) = bound_of outer ++ map tree_of values.now
bound_of (Defined' _ outer _ _ _ _) = bound_of outer

-- the definitions, the outermost first
abbrev pub scope_of : Frame → Scope
scope_of (Outer constants) = scope_with constants.now.items
scope_of (One' _ outer _ _) = scope_of outer
scope_of (Many' _ outer _ _) = scope_of outer
scope_of (Defined' _ outer _ names d _) = scope_of outer ++ (names, expr_in (scope_of outer) d.now) ∷ []

-- if the value of a definition is known, it is that of the outcome
abbrev pub IsKnown : Option (Bor Value) → Outcome Tree → Type 0
IsKnown None o = Unit {0}
IsKnown (Some v) o = o ≡ Ok (tree_of v.now)

-- the numbers in each frame count the outer names and definitions; each known value is that of its definition
abbrev pub Knows : Frame → Present → Next → Type 0
Knows (Outer _) s t = Unit {0}
Knows (One' _ outer names _) s t = (names ≡ length (bound_of outer)) × Knows outer s t
Knows (Many' _ outer names _) s t = (names ≡ length (bound_of outer)) × Knows outer s t
Knows (Defined' _ outer number names d v) s t = (number ≡ length (scope_of outer)) × (names ≡ length (bound_of outer)) × IsKnown v (val (expr_in (scope_of outer) d.now) (bound_of outer) s t) × Knows outer s t

-- it has at most one proof
Fault-set : IsSet Fault
Fault-set = Coded-set (fault.the_row).coded

Tree-set : IsSet Tree
Tree-set = Coded-set coded_tree

IsKnown-prop : (v : Option (Bor Value)) (o : Outcome Tree) → IsProp (IsKnown v o)
IsKnown-prop None o = hlevel props
IsKnown-prop (Some v) o = hlevel (props, Fault-set, Tree-set)

pub Knows-prop : (f : Frame) (s : Present) (t : Next) → IsProp (Knows f s t)
Knows-prop (Outer _) s t = hlevel props
Knows-prop (One' _ outer names _) s t = hlevel (props, Knows-prop outer s t)
Knows-prop (Many' _ outer names _) s t = hlevel (props, Knows-prop outer s t)
Knows-prop (Defined' _ outer number names d v) s t = hlevel (props, IsKnown-prop v (val (expr_in (scope_of outer) d.now) (bound_of outer) s t), Knows-prop outer s t)

-- the definition with this number is in scope, with `names` names bound outside it, and has this value
pub record IsDefinition (frame : Frame) (s : Present) (t : Next) (number names : ℕ) (v : Tree) : Type 0 where
  pub expr : Expr
  pub outer : Bound
  pub inner : Bound
  pub there : slice_get (scope_of frame) number ≡ Some (names, expr)
  pub split : bound_of frame ≡ outer ++ inner
  pub count : names ≡ length outer
  pub value : val expr outer s t ≡ Ok v
