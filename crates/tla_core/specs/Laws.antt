-- Laws of evaluation. (This project's own choice: what a checker needs of values and membership.)
use Rattle.std.specs.Prelude.{◌≡◌, ◌≢◌, ℕ, length, Some, Ok, Err, slice_get}
use Rattle.tla_value.specs.Tree.{Tree, Trees, set, members}
use Rattle.tla_value.specs.IsValue.{IsValue}
use Rattle.tla_value.specs.Sets.{is_member}
use Rattle.tla_core.specs.Fault.{NotSet, Outcome}
use Rattle.tla_core.specs.Expr.{Expr}
use Rattle.tla_core.specs.Meaning.{Meaning, Bound, Present, Next}
use Rattle.tla_core.specs.Value.{val, mem}

-- q extends p: each variable with a value in p has the same value in q
pub record Extends (p q : Next) : Type 0 where
  pub long : length q ≡ length p
  pub keeps : (i : ℕ) (v : Tree) → slice_get p i ≡ Some (Some v) → slice_get q i ≡ Some (Some v)

-- not the fault NotSet
abbrev pub IsFinal : {A : Type 0} → Outcome A → Type 0
IsFinal (Ok x) = Unit {0}
IsFinal (Err f) = f.code ≢ NotSet

-- if the first is final, the second equals it
pub record Stays {A : Type 0} (r r' : Outcome A) : Type 0 where
  pub by : IsFinal r → r' ≡ r

pub record IsStable (m : Meaning) : Type 0 where
  pub value : (b : Bound) (s : Present) (p q : Next) → Extends p q → Stays (m.value b s p) (m.value b s q)
  pub has : (v : Tree) (b : Bound) (s : Present) (p q : Next) → Extends p q → Stays (m.has v b s p) (m.has v b s q)

-- if the value is a set, membership has no fault, and is TRUE exactly for the set's members
pub record KnowsItsMembers (m : Meaning) : Type 0 where
  pub by : (v : Tree) → IsValue v → (b : Bound) (s : Present) (p : Next) (ts : Trees) → m.value b s p ≡ Ok (set ts) → m.has v b s p ≡ Ok (is_member v (members ts))

-- ---- the laws

-- extending a partial state doesn't change a result other than NotSet
abbrev pub ValueIsStable : Type 0
ValueIsStable = (e : Expr) (b : Bound) (s : Present) (p q : Next) → Extends p q → IsFinal (val e b s p) → val e b s q ≡ val e b s p

abbrev pub MembershipIsStable : Type 0
MembershipIsStable = (v : Tree) (e : Expr) (b : Bound) (s : Present) (p q : Next) → Extends p q → IsFinal (mem v e b s p) → mem v e b s q ≡ mem v e b s p

-- if the value of an expression is a set, membership in the expression is membership in that set
abbrev pub MembershipIsOfTheSet : Type 0
MembershipIsOfTheSet = (v : Tree) → IsValue v → (e : Expr) (b : Bound) (s : Present) (p : Next) (ts : Trees) → val e b s p ≡ Ok (set ts) → mem v e b s p ≡ Ok (is_member v (members ts))
