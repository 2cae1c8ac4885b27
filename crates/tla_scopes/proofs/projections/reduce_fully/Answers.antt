use Rattle.tla_scopes.specs.Scopes.{scope_at}
use Rattle.tla_scopes.proofs.GivenWalk.{comes_self, comes_trans, comes_back}
use Rattle.tla_scopes.specs.Listed.{listed}
use Rattle.tla_scopes.proofs.projections.reduce_fully.Goals as goal

pub loop-turn-init : goal.loop-turn-init
loop-turn-init c = record { same = comes_self (scope_at (listed c.args.entries.now) c.args.scope) c.args.start }

pub loop-turn-preserved : goal.loop-turn-preserved
loop-turn-preserved c =
    record { same = comes_trans (scope_at (listed c.args.entries.now) c.args.scope) c.args.start c.loop-turn.part c.in-Continue.next c.loop-turn.invariant.same c.in-Continue.ensures }

pub returns-in-Argument : goal.returns-in-Argument
returns-in-Argument c = comes_back (scope_at (listed c.args.entries.now) c.args.scope) c.args.start c.loop-turn.part c.in-Argument.reached c.loop-turn.invariant.same c.in-Argument.ensures

pub returns-in-Stuck : goal.returns-in-Stuck
returns-in-Stuck c = c.loop-turn.invariant.same
