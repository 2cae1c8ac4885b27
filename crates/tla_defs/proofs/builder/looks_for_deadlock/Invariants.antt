use Rattle.std.proofs.Common.{◌≡◌, length, map}
use Rattle.tla_config.specs.Statements.{checks_deadlock}
use Rattle.tla_config.specs.View.{statement_view}
use Rattle.tla_defs.proofs.builder.looks_for_deadlock.Given as goal

abbrev pub invariant-loop-left : goal.invariant-loop-left
invariant-loop-left l = checks_deadlock (map statement_view l.statements) ≡ checks_deadlock (map statement_view l.left)

abbrev pub decreases-loop-left : goal.decreases-loop-left
decreases-loop-left l = length l.left
