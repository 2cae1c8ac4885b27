use Rattle.std.proofs.Common.{◌≡◌, length, map}
use Rattle.std.specs.Borrow.{Bor}
use Rattle.tla_config.specs.Names.{Name}
use Rattle.tla_items.specs.Private.Settled.{all_among}
use Rattle.tla_items.proofs.cycle.all_among.Given as goal

abbrev pub invariant-loop-left : goal.invariant-loop-left
invariant-loop-left l = all_among l.names l.others ≡ all_among (map (λ (w : Bor Name). w.now) l.left) l.others

abbrev pub decreases-loop-left : goal.decreases-loop-left
decreases-loop-left l = length l.left
