-- The rules of some forms, from the meanings of their parts.
use Rattle.std.specs.Prelude.{ℕ, Bool, List, Option, Some, None, Ok}
use Rattle.tla_value.specs.Tree.{Tree, text}
use Rattle.tla_value.specs.Choices.{parts_of}
use Rattle.tla_core.specs.declared.fault.Place.{Place}
use Rattle.tla_core.specs.Fault.{Outcome, ◌>>=◌}
use Rattle.tla_core.specs.Kinds.{make_fun}
use Rattle.tla_core.specs.Lists.{each}
use Rattle.tla_core.specs.Meaning.{Meaning, Bound, Present, Next}
use Rattle.tla_operators.specs.Gives.{tuples_rule}
use Rattle.tla_sets.specs.Elements.{stands_rule}
use Rattle.tla_sets.specs.Fields.{records_rule}

-- an outcome without its value
abbrev pub nothing_of : {A : Type 0} → Outcome A → Outcome (Unit {0})
nothing_of o = do
  x ← o
  Ok tt

-- the result of a test for an element, if there is one
abbrev pub tested : (Tree → Outcome Bool) → Option Tree → Outcome (Option Bool)
tested test None = Ok None
tested test (Some v) = do
  holds ← test v
  Ok (Some holds)

-- whether a value is in the set of the values of some expressions
abbrev pub one_of_rule : Place → List Meaning → Tree → Bound → Present → Next → Outcome Bool
one_of_rule p ms v b s t = do
  vs ← each (λ (m : Meaning). m.value b s t) ms
  stands_rule p vs v

-- a field's name with its value, and the record of such fields
abbrev pub named_value : (List ℕ × Meaning) → Bound → Present → Next → Outcome (Tree × Tree)
named_value f b s t = do
  v ← f.1.value b s t
  Ok (text f.0, v)

abbrev pub record_rule : Place → List (List ℕ × Meaning) → Bound → Present → Next → Outcome Tree
record_rule p fs b s t = do
  ps ← each (λ (f : List ℕ × Meaning). named_value f b s t) fs
  make_fun p ps

-- S \X T .., and [a : S, ..]
abbrev pub product_rule : Place → List Meaning → Bound → Present → Next → Outcome Tree
product_rule p ms b s t = do
  vs ← each (λ (m : Meaning). m.value b s t) ms
  tuples_rule p vs

abbrev pub record_set_rule : Place → List (List ℕ × Meaning) → Bound → Present → Next → Outcome Tree
record_set_rule p fs b s t = do
  vs ← each (λ (m : Meaning). m.value b s t) (parts_of fs)
  records_rule p fs vs
