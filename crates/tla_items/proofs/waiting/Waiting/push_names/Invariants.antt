use Rattle.std.proofs.Common.{◌≡◌, ◌++◌, length, map}
use Rattle.std.specs.Borrow.{Bor}
use Rattle.tla_config.specs.Names.{Name}
use Rattle.tla_items.proofs.waiting.Waiting.push_names.Given as goal

abbrev pub invariant-loop-left : goal.invariant-loop-left
invariant-loop-left l = l.fn.self ++ l.names ≡ l.self ++ map (λ (w : Bor Name). w.now) l.left

abbrev pub decreases-loop-left : goal.decreases-loop-left
decreases-loop-left l = length l.left
