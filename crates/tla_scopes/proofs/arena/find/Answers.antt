use Rattle.std.proofs.Common.{length, arith}
use Rattle.tla_scopes.specs.Listed.{listed}
use Rattle.tla_scopes.proofs.Links.{below_more, below_at}
use Rattle.tla_scopes.proofs.arena.find.Goals as goal

pub returns-in-Some-clause-found : goal.returns-in-Some-clause-found
returns-in-Some-clause-found c = c.in-Some.ensures.found c.node.result.now.entry c.node.ensures.entry

pub returns-in-Some-clause-below : goal.returns-in-Some-clause-below
returns-in-Some-clause-below c =
    let e = c.node.result.now.entry in
    below_more c.in-Some.at (length (listed c.args.entries.now)) e.what e.rest (omega (arith, c.in-Some.ensures.there))
    (below_at (listed c.args.entries.now) c.in-Some.at e c.requires.linked c.in-Some.ensures.there c.node.ensures.entry)

pub returns-in-Some-clause-costs : goal.returns-in-Some-clause-costs
returns-in-Some-clause-costs c = c.in-Some.ensures.costs c.node.result.now.entry c.node.ensures.entry
