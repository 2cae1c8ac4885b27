use Rattle.std.proofs.Common.{◌≡◌, take, map}
use Rattle.tla_value.specs.TreeOf.{tree_of}
use Rattle.tla_value.proofs.equality.equal_items.Given as goal

-- the items so far are equal
abbrev pub invariant-loop-i : goal.invariant-loop-i
invariant-loop-i l = map tree_of (take l.i l.a) ≡ map tree_of (take l.i l.b)
