-- Conditions, and expressions whose values are needed if all conditions are TRUE: conjuncts of an action that are
-- evaluated together. (This project's own choice.)
use Rattle.std.specs.Prelude.{◌≡◌, Bool, true, false, List, map, Option, Some, None, Ok}
use Rattle.std.proofs.Common.{Bor}
use Rattle.tla_value.specs.Tree.{Tree}
use Rattle.tla_core.specs.declared.expression.Core.{Core}
use Rattle.tla_core.specs.Fault.{Outcome}
use Rattle.tla_core.specs.ExprOf.{expr_of}
use Rattle.tla_core.specs.Lists.{all_hold, each}
use Rattle.tla_core.specs.Meaning.{Bound, Present, Next, asks}
use Rattle.tla_core.specs.Value.{val, means}

-- the expressions that a list of references refers to
abbrev pub referred : List (Bor Core) → List Core
referred cores = map (λ (c : Bor Core). c.now) cores

-- whether an expression is TRUE; another value is a fault at its own place
abbrev pub is_true : Core → Bound → Present → Next → Outcome Bool
is_true core b s t = asks (means (expr_of core)).place (means (expr_of core)) b s t

-- None: a condition is FALSE, and those before it are TRUE. Some: all are TRUE, and these are the values.
abbrev pub AreFound : List Core → List Core → Bound → Present → Next → Option (List Tree) → Type 0
AreFound conditions values b s t None = all_hold (λ core. is_true core b s t) conditions ≡ Ok false
AreFound conditions values b s t (Some vs) =
    (all_hold (λ core. is_true core b s t) conditions ≡ Ok true) × (each (λ core. val (expr_of core) b s t) values ≡ Ok vs)
