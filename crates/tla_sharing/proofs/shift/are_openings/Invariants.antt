use Rattle.std.proofs.Common.{◌≡◌, drop}
use Rattle.tla_code.specs.Raise.{raised_openings}
use Rattle.tla_sharing.proofs.shift.are_openings.Given as goal

-- the lists are copies if their rests are
abbrev pub invariant-loop-i : goal.invariant-loop-i
invariant-loop-i l = drop l.i l.copies ≡ raised_openings l.from l.by (drop l.i l.originals) → l.copies ≡ raised_openings l.from l.by l.originals
