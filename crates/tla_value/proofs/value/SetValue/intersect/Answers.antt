use Rattle.std.proofs.Common.{true, map}
use Rattle.tla_value.specs.TreeOf.{tree_of}
use Rattle.tla_value.proofs.Passes.{rising_chosen}
use Rattle.tla_value.proofs.value.SetValue.intersect.Goals as goal

pub set_from_rising-requires : goal.set_from_rising-requires
set_from_rising-requires c = rw c.in_ok-items.ensures.ok (rising_chosen true (map tree_of c.items-2.result.now) (map tree_of c.items.result.now) (rw c.items.ensures.items c.items.ensures.rising))
