-- Sets that the code iterates over, or tests for a member, without building them.
use Rattle.std.specs.Prelude.{Bool, List, map, Result}
use Rattle.tla_value.specs.Tree.{Tree}
use Rattle.tla_value.specs.TreeOf.{tree_of}
use Rattle.tla_value.specs.Choices.{range_of}
use Rattle.tla_core.specs.declared.fault.Place.{Place}
use Rattle.tla_core.specs.declared.fault.Fault.{Fault}
use Rattle.tla_core.specs.Fault.{Outcome, ◌>>=◌}
use Rattle.tla_core.specs.Kinds.{as_set, make_set}
use Rattle.tla_operators.specs.Gives.{GivesBy, contains_rule}
use Rattle.tla_sets.specs.declared.elements.Elements.{Elements}
use Rattle.tla_sets.specs.declared.elements.Elements.TheVariants.{Lent, Made, Numbers}

-- the elements, in rising order
abbrev pub elements_of : Elements → List Tree
elements_of (Lent values) = map tree_of values.now
elements_of (Made set) = set
elements_of (Numbers span) = range_of span.low span.high

abbrev pub GivesElements : Result Elements Fault → Outcome (List Tree) → Type 0
GivesElements r o = GivesBy elements_of r o

-- the members of what should be a set
abbrev pub elements_rule : Place → Outcome Tree → Outcome (List Tree)
elements_rule p o = do
  x ← o
  as_set p x

-- whether a value is a member of it
abbrev pub has_rule : Place → Tree → Outcome Tree → Outcome Bool
has_rule p v o = do
  x ← o
  contains_rule p x v

-- whether a value is in the set of some values
abbrev pub stands_rule : Place → List Tree → Tree → Outcome Bool
stands_rule p vs v = has_rule p v (make_set p vs)
