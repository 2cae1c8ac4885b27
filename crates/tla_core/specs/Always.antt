-- Meanings with one value that doesn't depend on bound names or states.
use Rattle.std.specs.Prelude.{◌≡◌, Ok}
use Rattle.std.specs.Coded.{Coded-set}
use Rattle.std.proofs.Props.{props}
use Rattle.tla_value.specs.Tree.{Tree}
use Rattle.tla_value.specs.Stored.{coded_tree}
use Rattle.tla_core.specs.contracts.fault.Fault as fault
use Rattle.tla_core.specs.declared.fault.Fault.{Fault}
use Rattle.tla_core.specs.Meaning.{Meaning, Bound, Present, Next}

abbrev pub IsAlways : Meaning → Tree → Type 0
IsAlways m v = (b : Bound) (s : Present) (t : Next) → m.value b s t ≡ Ok v

Fault-set : IsSet Fault
Fault-set = Coded-set (fault.the_row).coded

Tree-set : IsSet Tree
Tree-set = Coded-set coded_tree

-- it has at most one proof
pub IsAlways-prop : (m : Meaning) (v : Tree) → IsProp (IsAlways m v)
IsAlways-prop m v = hlevel (props, Fault-set, Tree-set)
