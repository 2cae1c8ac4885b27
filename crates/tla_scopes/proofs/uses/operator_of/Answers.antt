use Rattle.std.proofs.Common.{arith}
use Rattle.tla_tree.specs.View.{view}
use Rattle.tla_scopes.specs.Costs.{costs_at, with_costs}
use Rattle.tla_scopes.specs.Listed.{listed}
use Rattle.tla_scopes.proofs.Cheaper.{total_at_most, cost_cheaper, with_costs_cheaper}
use Rattle.tla_scopes.proofs.uses.operator_of.Goals as goal

pub returns-in-Some-clause-cheaper : goal.returns-in-Some-clause-cheaper
returns-in-Some-clause-cheaper c = λ τ ns ms h a. omega (arith, total_at_most ns ms a)

pub returns-in-None-clause-cheaper : goal.returns-in-None-clause-cheaper
returns-in-None-clause-cheaper c = λ τ ns ms h a.
    let ws = c.args.parameters.now in
    let ρ = costs_at (listed c.args.entries.now) c.args.scope in
    let part = c.shortened_body-part.ensures.costs (with_costs ws ns ρ) in
    let body = cost_cheaper (view c.args.body.now) (with_costs ws ns ρ) (with_costs ws ms τ) (with_costs_cheaper ws ns ms ρ τ a h) in
    omega (arith, part, body, total_at_most ns ms a)
