use Rattle.std.proofs.Common.{◌∙◌, arith}
use Rattle.tla_tree.specs.View.{view}
use Rattle.tla_scopes.specs.Expand.{expand}
use Rattle.tla_scopes.specs.Scopes.{scope_at}
use Rattle.tla_scopes.proofs.Shorter.{operator_same}
use Rattle.tla_scopes.specs.Listed.{listed}
use Rattle.tla_scopes.proofs.shortened.shortened_body.Goals as goal

pub returns-in-None-clause-same : goal.returns-in-None-clause-same
returns-in-None-clause-same c = operator_same c.args.parameters.now (scope_at (listed c.args.entries.now) c.args.scope) (expand (view c.loop-turn.part.now)) (expand (view c.args.body.now)) c.loop-turn.invariant.same

pub returns-clause-same : goal.returns-clause-same
returns-clause-same c = operator_same c.args.parameters.now (scope_at (listed c.args.entries.now) c.args.scope) (expand (view c.loop-turn.part.now)) (expand (view c.args.body.now)) c.loop-turn.invariant.same

pub loop-turn-preserved : goal.loop-turn-preserved
loop-turn-preserved c = record {
  same = λ args σ d k. c.in-Some.ensures.same args σ d k ∙ c.loop-turn.invariant.same args σ d k;
  costs = λ σ. omega (arith, c.in-Some.ensures.costs σ, c.loop-turn.invariant.costs σ);
}
