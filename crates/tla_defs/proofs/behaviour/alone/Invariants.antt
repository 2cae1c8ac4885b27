use Rattle.std.proofs.Common.{◌≡◌, length, map}
use Rattle.tla_config.specs.View.{statement_view}
use Rattle.tla_defs.specs.Refused as refused
use Rattle.tla_defs.proofs.behaviour.alone.Given as goal

abbrev pub invariant-loop-left : goal.invariant-loop-left
invariant-loop-left l = refused.alone l.place l.name (map statement_view l.statements) ≡ refused.alone l.place l.name (map statement_view l.left)

abbrev pub decreases-loop-left : goal.decreases-loop-left
decreases-loop-left l = length l.left
