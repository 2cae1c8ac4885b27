-- A body evaluated for one choice, and for all choices from known values.
use Rattle.std.specs.Prelude.{◌++◌, List, Option, Some, None, Ok}
use Rattle.tla_value.specs.Tree.{Tree}
use Rattle.tla_value.specs.Choices.{choices}
use Rattle.tla_core.specs.declared.fault.Place.{Place}
use Rattle.tla_core.specs.Fault.{Outcome, ◌>>=◌}
use Rattle.tla_core.specs.Kinds.{as_set, make_set}
use Rattle.tla_core.specs.Lists.{each}
use Rattle.tla_core.specs.Meaning.{Meaning, Bound, Present, Next}
use Rattle.tla_sets.specs.Domain.{function_rule}

-- the values of a body for all choices from some lists, and from some sets
abbrev pub values_for : Meaning → Bound → Present → Next → List (List Tree) → Outcome (List Tree)
values_for e b s t lists = each (λ c. e.value (b ++ c) s t) (choices lists)

abbrev pub chosen_rule : Place → Meaning → Bound → Present → Next → List Tree → Outcome (List Tree)
chosen_rule p e b s t vs = do
  lists ← each (as_set p) vs
  values_for e b s t lists

-- the set of such values
abbrev pub image_rule : Place → List Meaning → Meaning → Bound → Present → Next → Outcome Tree
image_rule p ms e b s t = do
  vs ← each (λ (m : Meaning). m.value b s t) ms
  ys ← chosen_rule p e b s t vs
  make_set p ys

-- the function with them
abbrev pub chosen_function_rule : Place → List Meaning → Meaning → Bound → Present → Next → Outcome Tree
chosen_function_rule p ms e b s t = do
  vs ← each (λ (m : Meaning). m.value b s t) ms
  ys ← chosen_rule p e b s t vs
  function_rule p vs ys

-- the value of a body for a choice, if there is one
abbrev pub value_at : Meaning → Bound → Present → Next → Option (List Tree) → Outcome (Option Tree)
value_at e b s t None = Ok None
value_at e b s t (Some c) = do
  v ← e.value (b ++ c) s t
  Ok (Some v)

-- the function on all choices from some values with the values of a body
abbrev pub function_for_rule : Place → Meaning → Bound → Present → Next → List Tree → Outcome Tree
function_for_rule p e b s t vs = do
  ys ← chosen_rule p e b s t vs
  function_rule p vs ys
