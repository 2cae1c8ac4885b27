-- What evaluating and reading a model requires. (This project's own choice.)
use Rattle.std.specs.Prelude.{◌≤◌, ℕ, Bool, true, false, IsTrue, IsFalse, List, [], ◌∷◌, length, map, ⊤}
use Rattle.std.proofs.Props.{props}
use Rattle.tla_core.specs.Expr.{Expr}
use Rattle.tla_core.specs.Fits.{fits}
use Rattle.tla_core.specs.Next.{has_next}
use Rattle.tla_model.specs.ModelTree.{ModelTree}
use Rattle.tla_model.specs.Size.{depth}
use Rattle.tla_model.specs.WellFormed.{is_well_formed}
use Rattle.tla_model.specs.declared.limits.TheConstants.{MAX_PATH}

-- Over this many variables, the names of the expression exist; it mentions present values only if there is a present
-- state; a path has at most MAX_PATH nodes; and the expression is well-formed.
pub record IsUsable (variables : ℕ) (present : Bool) (e : Expr) : Type 0 where
  pub named : IsTrue (fits e 0 variables present)
  pub shallow : depth e ≤ MAX_PATH
  pub formed : IsTrue (is_well_formed e)

abbrev pub AreUsable : ℕ → Bool → List Expr → Type 0
AreUsable variables present [] = ⊤
AreUsable variables present (e ∷ es) = IsUsable variables present e × AreUsable variables present es

-- of one state: they mention no next value
abbrev pub AreOfState : List Expr → Type 0
AreOfState [] = ⊤
AreOfState (e ∷ es) = IsFalse (has_next e) × AreOfState es

-- the expressions of invariants, or of constraints, with their names
abbrev pub bodies : List (List ℕ × Expr) → List Expr
bodies is = map (λ (i : List ℕ × Expr). i.1) is

-- Assumptions mention no variable, the initial predicate no present value, and invariants and constraints no next value.
pub record IsSound (m : ModelTree) : Type 0 where
  pub assumptions : AreUsable 0 false m.assumptions
  pub init : IsUsable (length m.variables) false m.init
  pub next : IsUsable (length m.variables) true m.next
  pub invariants : AreUsable (length m.variables) true (bodies m.invariants)
  pub invariants_of_state : AreOfState (bodies m.invariants)
  pub constraints : AreUsable (length m.variables) true (bodies m.constraints)
  pub constraints_of_state : AreOfState (bodies m.constraints)

-- it has at most one proof
pub IsUsable-prop : (variables : ℕ) (present : Bool) (e : Expr) → IsProp (IsUsable variables present e)
IsUsable-prop variables present e = hlevel props

pub AreUsable-prop : (variables : ℕ) (present : Bool) (es : List Expr) → IsProp (AreUsable variables present es)
AreUsable-prop variables present [] = hlevel props
AreUsable-prop variables present (e ∷ es) =
    let first = IsUsable-prop variables present e in
    let rest = AreUsable-prop variables present es in
    hlevel (props, first, rest)

pub AreOfState-prop : (es : List Expr) → IsProp (AreOfState es)
AreOfState-prop [] = hlevel props
AreOfState-prop (e ∷ es) = let rest = AreOfState-prop es in hlevel (props, rest)

pub IsSound-prop : (m : ModelTree) → IsProp (IsSound m)
IsSound-prop m =
    let a = AreUsable-prop 0 false m.assumptions in
    let i = IsUsable-prop (length m.variables) false m.init in
    let n = IsUsable-prop (length m.variables) true m.next in
    let v = AreUsable-prop (length m.variables) true (bodies m.invariants) in
    let c = AreUsable-prop (length m.variables) true (bodies m.constraints) in
    let vs = AreOfState-prop (bodies m.invariants) in
    let cs = AreOfState-prop (bodies m.constraints) in
    hlevel (props, a, i, n, v, vs, c, cs)
