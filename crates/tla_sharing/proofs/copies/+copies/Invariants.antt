use Rattle.std.proofs.Common.{◌+◌, ◌*◌, drop}
use Rattle.tla_code.specs.declared.code.Code.{size-Code}
use Rattle.tla_sharing.specs.Private.Copies.{AreCopies, AreFields, AreUpdates}
use Rattle.tla_sharing.proofs.copies.+copies.Given as goal

abbrev pub decreases-is_copy : goal.decreases-is_copy
decreases-is_copy l = 8 * size-Code l.original.now + 1

abbrev pub decreases-has_listed_copies : goal.decreases-has_listed_copies
decreases-has_listed_copies l = 8 * size-Code l.original.now + 0

abbrev pub decreases-are_copies : goal.decreases-are_copies
decreases-are_copies l = 8 * goal.size-are_copies l + 3

abbrev pub decreases-are_fields : goal.decreases-are_fields
decreases-are_fields l = 8 * goal.size-are_fields l + 3

abbrev pub decreases-are_updates : goal.decreases-are_updates
decreases-are_updates l = 8 * goal.size-are_updates l + 4

-- the rest decides
abbrev pub invariant-are_copies-loop-i : goal.invariant-are_copies-loop-i
invariant-are_copies-loop-i l = AreCopies l.shift (drop l.i l.originals) (drop l.i l.copies) → AreCopies l.shift l.originals l.copies

abbrev pub invariant-are_fields-loop-i : goal.invariant-are_fields-loop-i
invariant-are_fields-loop-i l = AreFields l.shift (drop l.i l.originals) (drop l.i l.copies) → AreFields l.shift l.originals l.copies

abbrev pub invariant-are_updates-loop-i : goal.invariant-are_updates-loop-i
invariant-are_updates-loop-i l = AreUpdates l.shift (drop l.i l.originals) (drop l.i l.copies) → AreUpdates l.shift l.originals l.copies
