use Rattle.tla_expand.proofs.Visits.{named_is}
use Rattle.tla_scopes.specs.Listed.{listed}
use Rattle.tla_expand.proofs.cover.entry_of_name.Goals as goal

pub returns-in-Name : goal.returns-in-Name
returns-in-Name c =
    named_is (listed c.args.entries.now) c.args.tree.now c.args.scope c.in-Name.name c.as_bytes.result.now c.position.result c.in-Name.is c.as_bytes.ensures c.position.ensures.found c.position.ensures.there
