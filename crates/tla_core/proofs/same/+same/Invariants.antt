use Rattle.std.proofs.Common.{◌≡◌, ◌+◌, ◌*◌, map, take}
use Rattle.tla_core.specs.declared.fixed.Fixed.{size-Fixed}
use Rattle.tla_core.specs.FixedOf.{fixed_of}
use Rattle.tla_core.specs.Private.Known.{named_fixed}
use Rattle.tla_core.proofs.same.+same.Given as goal

-- the part before is equal
abbrev pub invariant-same_parts-loop-i : goal.invariant-same_parts-loop-i
invariant-same_parts-loop-i l = map fixed_of (take l.i l.parts) ≡ map fixed_of (take l.i l.others)

abbrev pub invariant-same_fields-loop-i : goal.invariant-same_fields-loop-i
invariant-same_fields-loop-i l = map named_fixed (take l.i l.named) ≡ map named_fixed (take l.i l.others)

-- ---- the measure: the depth of the rest, then an order of the functions
abbrev pub decreases-same_tree : goal.decreases-same_tree
decreases-same_tree l = 4 * size-Fixed l.left.now

abbrev pub decreases-is_enumerated : goal.decreases-is_enumerated
decreases-is_enumerated l = 4 * goal.size-is_enumerated l + 3

abbrev pub decreases-is_tuple : goal.decreases-is_tuple
decreases-is_tuple l = 4 * goal.size-is_tuple l + 3

abbrev pub decreases-is_record : goal.decreases-is_record
decreases-is_record l = 4 * goal.size-is_record l + 3

abbrev pub decreases-same_parts : goal.decreases-same_parts
decreases-same_parts l = 4 * goal.size-same_parts l + 1

abbrev pub decreases-same_fields : goal.decreases-same_fields
decreases-same_fields l = 4 * goal.size-same_fields l + 1
