-- Codes and expressions with one value in all states.
use Rattle.std.specs.Prelude.{◌≡◌, [], Ok}
use Rattle.std.specs.Coded.{Coded-set}
use Rattle.std.proofs.Props.{props}
use Rattle.tla_value.specs.Tree.{Tree}
use Rattle.tla_value.specs.TreeOf.{tree_of}
use Rattle.tla_value.specs.Stored.{coded_tree}
use Rattle.tla_value.specs.declared.value.Value.{Value}
use Rattle.tla_core.specs.contracts.fault.Fault as fault
use Rattle.tla_core.specs.declared.fault.Fault.{Fault}
use Rattle.tla_core.specs.Meaning.{Present, Next}
use Rattle.tla_core.specs.Value.{val}
use Rattle.tla_code.specs.CodeExpr.{code_expr}
use Rattle.tla_code.specs.declared.code.Code.{Code}

-- under no names
abbrev pub IsLasting : Code → Value → Type 0
IsLasting c v = (s : Present) (t : Next) → val (code_expr c) [] s t ≡ Ok (tree_of v)

Fault-set : IsSet Fault
Fault-set = Coded-set (fault.the_row).coded

Tree-set : IsSet Tree
Tree-set = Coded-set coded_tree

-- it has at most one proof
pub IsLasting-prop : (c : Code) (v : Value) → IsProp (IsLasting c v)
IsLasting-prop c v = hlevel (props, Fault-set, Tree-set)
