-- Laws by which one evaluation serves several copies of an expression. (This project's own choice: what sharing needs
-- of values and membership.)
use Rattle.std.specs.Prelude.{◌≡◌, ℕ, ◌+◌, ◌≤◌, ◌++◌, length}
use Rattle.tla_value.specs.Tree.{Tree}
use Rattle.tla_core.specs.Expr.{Expr}
use Rattle.tla_core.specs.Meaning.{Bound, Present, Next}
use Rattle.tla_core.specs.Value.{val, mem}
use Rattle.tla_code.specs.Raise.{raise}
use Rattle.tla_code.specs.NoVariables.{HasNoVariables}

-- The expression is evaluated under the bound values `outer`, its copy also under `inner`. `own` are the values of
-- names bound inside the copied expression, around e.
abbrev pub RaiseKeepsValue : Type 0
RaiseKeepsValue = (e : Expr) (outer inner own : Bound) (s : Present) (t : Next) → val (raise (length outer) (length inner) e) ((outer ++ inner) ++ own) s t ≡ val e (outer ++ own) s t

abbrev pub RaiseKeepsMembers : Type 0
RaiseKeepsMembers = (v : Tree) (e : Expr) (outer inner own : Bound) (s : Present) (t : Next) → mem v (raise (length outer) (length inner) e) ((outer ++ inner) ++ own) s t ≡ mem v e (outer ++ own) s t

-- A copy of a copy is one copy, if the second's new names are among the first's, or right before or after them.
abbrev pub RaiseTwiceIsRaiseOnce : Type 0
RaiseTwiceIsRaiseOnce = (e : Expr) (from by f more : ℕ) → from ≤ f → f ≤ from + by → raise from (by + more) e ≡ raise f more (raise from by e)

-- An expression that mentions no variable is the same in all states.
abbrev pub SteadyKeepsValue : Type 0
SteadyKeepsValue = (e : Expr) → HasNoVariables e → (b : Bound) (s s' : Present) (t t' : Next) → val e b s t ≡ val e b s' t'

abbrev pub SteadyKeepsMembers : Type 0
SteadyKeepsMembers = (v : Tree) (e : Expr) → HasNoVariables e → (b : Bound) (s s' : Present) (t t' : Next) → mem v e b s t ≡ mem v e b s' t'
