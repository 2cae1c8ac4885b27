use Rattle.std.proofs.Common.{◌≡◌, ◌-◌, ◌≤◌, length, map}
use Rattle.tla_config.specs.View.{statement_view}
use Rattle.tla_config.proofs.StatementLists.{StatementsSoFar, checks_of, count_of}
use Rattle.tla_config.proofs.statements.statements.Given as goal

abbrev pub invariant-loop-at : goal.invariant-loop-at
invariant-loop-at l = record {
  so_far : StatementsSoFar l.text l.tokens (map statement_view l.statements.items) l.at;
  checks : checks_of (map statement_view l.statements.items) ≡ count_of l.checks;
  within : l.at ≤ length l.tokens;
}

abbrev pub decreases-loop-at : goal.decreases-loop-at
decreases-loop-at l = length l.tokens - l.at
