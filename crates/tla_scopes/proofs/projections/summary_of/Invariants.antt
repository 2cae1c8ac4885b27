use Rattle.tla_scopes.proofs.GivenWalk.{IsSought}
use Rattle.tla_scopes.proofs.projections.summary_of.Given as goal

abbrev pub invariant-loop-at : goal.invariant-loop-at
invariant-loop-at l = record { same : IsSought l.name l.known l.at }
