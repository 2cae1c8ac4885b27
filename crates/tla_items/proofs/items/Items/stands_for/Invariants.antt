use Rattle.std.proofs.Common.{◌≡◌}
use Rattle.tla_items.specs.Items.{led, stands_for}
use Rattle.tla_items.proofs.items.Items.stands_for.Given as goal

abbrev pub invariant-loop-left : goal.invariant-loop-left
invariant-loop-left l = stands_for l.self l.name ≡ led l.self l.left l.word

abbrev pub decreases-loop-left : goal.decreases-loop-left
decreases-loop-left l = l.left
