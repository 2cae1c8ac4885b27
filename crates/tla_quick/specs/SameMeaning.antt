-- Two expressions with the same values and the same members.
use Rattle.std.specs.Prelude.{◌≡◌}
use Rattle.std.specs.Coded.{Coded-set}
use Rattle.std.proofs.Props.{props}
use Rattle.tla_value.specs.Tree.{Tree}
use Rattle.tla_value.specs.Stored.{coded_tree}
use Rattle.tla_core.specs.contracts.fault.Fault as fault
use Rattle.tla_core.specs.declared.fault.Fault.{Fault}
use Rattle.tla_core.specs.Expr.{Expr}
use Rattle.tla_core.specs.Meaning.{Bound, Present, Next}
use Rattle.tla_core.specs.Value.{val, mem}

abbrev pub HasSameValue : Expr → Expr → Type 0
HasSameValue e d = (b : Bound) (s : Present) (t : Next) → val e b s t ≡ val d b s t

abbrev pub HasSameMembers : Expr → Expr → Type 0
HasSameMembers e d = (v : Tree) (b : Bound) (s : Present) (t : Next) → mem v e b s t ≡ mem v d b s t

Fault-set : IsSet Fault
Fault-set = Coded-set (fault.the_row).coded

Tree-set : IsSet Tree
Tree-set = Coded-set coded_tree

-- each has at most one proof
pub HasSameValue-prop : (e d : Expr) → IsProp (HasSameValue e d)
HasSameValue-prop e d = hlevel (props, Fault-set, Tree-set)

pub HasSameMembers-prop : (e d : Expr) → IsProp (HasSameMembers e d)
HasSameMembers-prop e d = hlevel (props, Fault-set)
