use Rattle.std.proofs.Common.{◌≡◌, ◌++◌, length, map}
use Rattle.tla_config.specs.Statements.{items_of}
use Rattle.tla_config.specs.View.{statement_view}
use Rattle.tla_items.proofs.items.Items.of.Given as goal

abbrev pub invariant-loop-left : goal.invariant-loop-left
invariant-loop-left l = items_of (map statement_view l.statements) ≡ l.items ++ items_of (map statement_view l.left)

abbrev pub decreases-loop-left : goal.decreases-loop-left
decreases-loop-left l = length l.left
