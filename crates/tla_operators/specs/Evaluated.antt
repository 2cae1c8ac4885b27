-- Values that are borrowed or owned.
use Rattle.std.specs.Prelude.{Result}
use Rattle.tla_value.specs.Tree.{Tree}
use Rattle.tla_value.specs.TreeOf.{tree_of}
use Rattle.tla_core.specs.declared.fault.Fault.{Fault}
use Rattle.tla_core.specs.Fault.{Outcome}
use Rattle.tla_operators.specs.Gives.{GivesBy}
use Rattle.tla_operators.specs.declared.evaluated.Evaluated.{Evaluated}
use Rattle.tla_operators.specs.declared.evaluated.Evaluated.TheVariants.{Borrowed, Owned}

abbrev pub tree_of_evaluated : Evaluated → Tree
tree_of_evaluated (Borrowed value) = tree_of value.now
tree_of_evaluated (Owned value) = tree_of value

abbrev pub Evaluates : Result Evaluated Fault → Outcome Tree → Type 0
Evaluates r o = GivesBy tree_of_evaluated r o
