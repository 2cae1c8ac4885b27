-- The domain of a function on all choices from several sets, which is found before its values are evaluated.
use Rattle.std.specs.Prelude.{◌≡◌, ◌⊎◌, List, length, zip, Result, Ok, Err}
use Rattle.tla_value.specs.Tree.{Tree}
use Rattle.tla_value.specs.Choices.{choices}
use Rattle.tla_core.specs.declared.fault.Place.{Place}
use Rattle.tla_core.specs.declared.fault.Fault.{Fault}
use Rattle.tla_core.specs.Fault.{Outcome, ◌>>=◌, out_of_memory}
use Rattle.tla_core.specs.Kinds.{as_set, make_fun}
use Rattle.tla_core.specs.Lists.{each}
use Rattle.tla_core.specs.Functions.{function_on}
use Rattle.tla_sets.specs.declared.domain.Domain.{Domain}
use Rattle.tla_sets.specs.declared.domain.Domain.TheVariants.{Tuples, Refused}

-- the function on all choices from some sets, with these values
abbrev pub function_rule : Place → List Tree → List Tree → Outcome Tree
function_rule p vs ys = do
  lists ← each (as_set p) vs
  function_on p (choices lists) ys

-- there are as many values as choices from some sets
abbrev pub AreForChoices : Place → List Tree → List Tree → Type 0
AreForChoices p vs ys = (lists : List (List Tree)) → each (as_set p) vs ≡ Ok lists → length ys ≡ length (choices lists)

-- every function on these choices has the arguments `ts`, or every one has the fault `f`
abbrev pub IsDomain : Place → List Tree → Domain → Type 0
IsDomain p vs (Tuples ts) = (ys : List Tree) → AreForChoices p vs ys → (length ts ≡ length ys) × (function_rule p vs ys ≡ make_fun p (zip ts ys))
IsDomain p vs (Refused f) = (ys : List Tree) → AreForChoices p vs ys → (f ≡ out_of_memory) ⊎ (function_rule p vs ys ≡ Err f)

-- the values are sets and have such a domain; or the fault is that of one that is no set
abbrev pub FindsDomain : Place → List Tree → Result Domain Fault → Type 0
FindsDomain p vs (Ok d) = IsDomain p vs d
FindsDomain p vs (Err f) = (f ≡ out_of_memory) ⊎ (each (as_set p) vs ≡ Err f)
