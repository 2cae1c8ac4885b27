use Rattle.std.proofs.Common.{◌≡◌, length, map}
use Rattle.tla_config.specs.View.{statement_view}
use Rattle.tla_names.specs.Named.{names_misused}
use Rattle.tla_names.proofs.named.statements_named.Given as goal

abbrev pub invariant-loop-left : goal.invariant-loop-left
invariant-loop-left l = names_misused l.definitions (map statement_view l.statements) ≡ names_misused l.definitions (map statement_view l.left)

abbrev pub decreases-loop-left : goal.decreases-loop-left
decreases-loop-left l = length l.left
