use Rattle.std.proofs.Common.{◌++◌, map}
use Rattle.tla_value.specs.TreeOf.{tree_of}
use Rattle.tla_value.specs.SetLaws.{rising-set_of}
use Rattle.tla_value.proofs.value.SetValue.union.Goals as goal

pub set_from_rising-requires : goal.set_from_rising-requires
set_from_rising-requires c = rw c.in_ok-items.ensures.ok (rising-set_of (map tree_of c.items.result.now ++ map tree_of c.items-2.result.now))
