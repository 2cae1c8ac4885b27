use Rattle.std.proofs.Common.{arith}
use Rattle.tla_scopes.proofs.GivenBack.{use_given, use_other, use_beyond}
use Rattle.tla_scopes.proofs.Cheaper.{item_at_most}
use Rattle.tla_scopes.proofs.projections.given_argument.Goals as goal

pub returns-then-given-arguments-clause-some : goal.returns-then-given-arguments-clause-some
returns-then-given-arguments-clause-some c =
    use_given c.args.count c.args.given c.args.arguments.now c.index-arguments-given.result c.if-count-arguments.false c.if-given-arguments.true c.index-arguments-given.is

pub returns-then-count-arguments-clause-none : goal.returns-then-count-arguments-clause-none
returns-then-count-arguments-clause-none c = use_other c.args.count c.args.given c.args.arguments.now c.if-count-arguments.true

pub returns-clause-none : goal.returns-clause-none
returns-clause-none c = use_beyond c.args.count c.args.given c.args.arguments.now c.if-count-arguments.false (omega arith)

pub returns-then-given-arguments-clause-costs : goal.returns-then-given-arguments-clause-costs
returns-then-given-arguments-clause-costs c = λ σ. item_at_most c.args.arguments.now c.args.given.index c.index-arguments-given.result σ c.if-given-arguments.true c.index-arguments-given.is
