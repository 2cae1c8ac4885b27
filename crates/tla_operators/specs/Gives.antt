-- The result of a call: the value or the fault of the definition, unless memory ran out. (This project's own choice.)
use Rattle.std.specs.Prelude.{◌≡◌, ◌⊎◌, ℤ, Bool, List, Some, None, Result, Ok, Err}
use Rattle.std.proofs.Common.{Bor}
use Rattle.tla_value.specs.Tree.{Tree}
use Rattle.tla_value.specs.TreeOf.{tree_of}
use Rattle.tla_value.specs.declared.value.Value.{Value}
use Rattle.tla_value.specs.Sets.{is_member}
use Rattle.tla_value.specs.Choices.{subsets_of, tuples_of}
use Rattle.tla_value.specs.declared.error.ValueError.{ValueError}
use Rattle.tla_value.specs.declared.error.ValueError.TheVariants.{TooMany, TooDeep, Memory}
use Rattle.tla_core.specs.declared.fault.Place.{Place}
use Rattle.tla_core.specs.declared.fault.Fault.{Fault}
use Rattle.tla_core.specs.declared.fault.FaultCode.{FaultCode}
use Rattle.tla_core.specs.Fault.{Outcome, ◌>>=◌, out_of_memory}
use Rattle.tla_core.specs.Kinds.{as_int, as_set, make_set, make_function_set}
use Rattle.tla_core.specs.Lists.{each}

abbrev pub GivesBy : {X A : Type 0} → (X → A) → Result X Fault → Outcome A → Type 0
GivesBy view (Ok x) o = o ≡ Ok (view x)
GivesBy view (Err f) o = (f ≡ out_of_memory) ⊎ (o ≡ Err f)

-- a value, and a truth value
abbrev pub Gives : Result Value Fault → Outcome Tree → Type 0
Gives r o = GivesBy tree_of r o

abbrev pub GivesTruth : Result Bool Fault → Outcome Bool → Type 0
GivesTruth r o = GivesBy (λ (b : Bool). b) r o

-- a borrowed value
abbrev pub GivesBorrowed : Result (Bor Value) Fault → Outcome Tree → Type 0
GivesBorrowed r o = GivesBy (λ (v : Bor Value). tree_of v.now) r o

-- two values that are numbers
abbrev pub two_ints : Place → Tree → Tree → Outcome (ℤ × ℤ)
two_ints p x y = do
  a ← as_int p x
  b ← as_int p y
  Ok (a, b)

-- whether a value that is a set has a member
abbrev pub contains_rule : Place → Tree → Tree → Outcome Bool
contains_rule p x v = do
  xs ← as_set p x
  Ok (is_member v xs)

-- the fault for a limit that a value would exceed
abbrev pub IsRefusal : ValueError → Place → Fault → Type 0
IsRefusal TooMany p f = f ≡ record { code = FaultCode.TooMany; place = Some p; variable = None }
IsRefusal TooDeep p f = f ≡ record { code = FaultCode.TooDeep; place = Some p; variable = None }
IsRefusal Memory p f = f ≡ out_of_memory

-- all subsets of a value that is a set
abbrev pub subsets_rule : Place → Tree → Outcome Tree
subsets_rule p x = do
  xs ← as_set p x
  make_set p (subsets_of xs)

-- the tuples with one item of each set
abbrev pub tuples_rule : Place → List Tree → Outcome Tree
tuples_rule p vs = do
  lists ← each (as_set p) vs
  make_function_set p (tuples_of lists)
