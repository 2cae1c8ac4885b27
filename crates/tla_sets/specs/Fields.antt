-- Sets of records: the names of fields with their sets.
use Rattle.std.specs.Prelude.{ℕ, cond, List, zip, Ok}
use Rattle.tla_value.specs.Tree.{Tree}
use Rattle.tla_value.specs.Choices.{records_of, keys_of, is_each_once}
use Rattle.tla_core.specs.declared.fault.Place.{Place}
use Rattle.tla_core.specs.declared.fault.FaultCode.TheVariants.{NoField}
use Rattle.tla_core.specs.Fault.{Outcome, ◌>>=◌, fault}
use Rattle.tla_core.specs.Kinds.{as_set, make_function_set}
use Rattle.tla_core.specs.Lists.{each}
use Rattle.tla_core.specs.Meaning.{Meaning}
use Rattle.tla_core.specs.SetForms.{names_of}

-- each field's name with the members of its set
abbrev pub named_sets : Place → List (List ℕ × Meaning) → List Tree → Outcome (List (List ℕ × List Tree))
named_sets p fs vs = do
  lists ← each (as_set p) vs
  Ok (zip (names_of fs) lists)

-- the records whose fields have values in the fields' sets
abbrev pub records_rule : Place → List (List ℕ × Meaning) → List Tree → Outcome Tree
records_rule p fs vs = do
  sets ← named_sets p fs vs
  cond (is_each_once (keys_of fs)) (make_function_set p (records_of sets)) (fault NoField p)
