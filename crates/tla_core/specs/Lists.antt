-- Tests and evaluations over lists, each up to the first fault.
use Rattle.std.specs.Prelude.{Bool, true, false, cond, List, [], ◌∷◌, Option, Some, None, Ok}
use Rattle.tla_value.specs.Tree.{Tree}
use Rattle.tla_core.specs.Fault.{Place, NoChoice, NoArm, Outcome, ◌>>=◌, fault}

-- one by one, from left to right
abbrev pub each : {A B : Type 0} → (A → Outcome B) → List A → Outcome (List B)
each f [] = Ok []
each f (x ∷ xs) = do
  y ← f x
  ys ← each f xs
  Ok (y ∷ ys)

-- whether all are TRUE, up to the first that is FALSE; whether some is TRUE, up to the first that is
abbrev pub all_hold : {A : Type 0} → (A → Outcome Bool) → List A → Outcome Bool
all_hold test [] = Ok true
all_hold test (x ∷ xs) = do
  holds ← test x
  cond holds (all_hold test xs) (Ok false)

abbrev pub some_hold : {A : Type 0} → (A → Outcome Bool) → List A → Outcome Bool
some_hold test [] = Ok false
some_hold test (x ∷ xs) = do
  holds ← test x
  cond holds (Ok true) (some_hold test xs)

-- those that pass the test
abbrev pub passing : {A : Type 0} → (A → Outcome Bool) → List A → Outcome (List A)
passing test [] = Ok []
passing test (x ∷ xs) = do
  holds ← test x
  ys ← passing test xs
  Ok (cond holds (x ∷ ys) ys)

-- the least that passes, in a rising list: CHOOSE (this project's own choice)
abbrev pub first_passing : Place → (Tree → Outcome Bool) → List Tree → Outcome Tree
first_passing p test [] = fault NoChoice p
first_passing p test (x ∷ xs) = do
  holds ← test x
  cond holds (Ok x) (first_passing p test xs)

-- the first arm whose condition is TRUE, else the last one; without one, the fault NoArm
abbrev pub taken : {M R A : Type 0} → Place → (M → Outcome Bool) → (R → Outcome A) → List (M × R) → Option R → Outcome A
taken p ask go [] None = fault NoArm p
taken p ask go [] (Some r) = go r
taken p ask go (arm ∷ arms) last = do
  holds ← ask arm.0
  cond holds (go arm.1) (taken p ask go arms last)
