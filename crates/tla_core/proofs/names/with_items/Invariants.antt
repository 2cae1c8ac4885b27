use Rattle.std.proofs.Common.{ℕ, ◌+◌, take}
use Rattle.tla_core.specs.Fits.{Counts}
use Rattle.tla_core.specs.Patterns.{items_in}
use Rattle.tla_core.proofs.names.with_items.Given as goal

-- the items of the openings so far are counted
abbrev pub invariant-loop-opening : goal.invariant-loop-opening
invariant-loop-opening l = (n : ℕ) → Counts l.fn.names n → Counts l.count (n + items_in (take l.opening-index l.openings))
