use Rattle.std.proofs.Common.{◌≡◌, length, map}
use Rattle.std.specs.Borrow.{Bor}
use Rattle.tla_config.specs.Names.{Name}
use Rattle.tla_items.specs.Open.{meets}
use Rattle.tla_items.proofs.open.meets.Given as goal

abbrev pub invariant-loop-left : goal.invariant-loop-left
invariant-loop-left l = meets l.names l.others ≡ meets (map (λ (w : Bor Name). w.now) l.left) l.others

abbrev pub decreases-loop-left : goal.decreases-loop-left
decreases-loop-left l = length l.left
