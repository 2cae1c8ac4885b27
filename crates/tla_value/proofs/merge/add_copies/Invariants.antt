use Rattle.std.proofs.Common.{◌≡◌, ◌++◌, take}
use Rattle.tla_value.proofs.merge.add_copies.Given as goal

abbrev pub invariant-loop-item : goal.invariant-loop-item
invariant-loop-item l = l.to.items ≡ l.initial.to.items ++ take l.item-index l.items
