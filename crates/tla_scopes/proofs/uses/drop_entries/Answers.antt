use Rattle.std.proofs.Common.{arith, length}
use Rattle.tla_scopes.proofs.Cuts.{linked_cut, length_cut, scope_cut, extends_cut}
use Rattle.tla_scopes.specs.Listed.{listed}
use Rattle.tla_scopes.proofs.EntryCosts.{costs_cut}
use Rattle.tla_scopes.proofs.uses.drop_entries.Goals as goal

pub returns-clause-linked : goal.returns-clause-linked
returns-clause-linked c = linked_cut (listed c.args.entries.now) (listed c.truncate.new.self) c.larger-end.result c.truncate.ensures.items c.requires.linked

pub returns-clause-within : goal.returns-clause-within
returns-clause-within c =
    let end = c.larger-end.ensures.least (length (listed c.args.entries.now)) c.requires.kept c.requires.scope in
    let n = length_cut (listed c.args.entries.now) (listed c.truncate.new.self) c.larger-end.result c.truncate.ensures.items end in
    omega (arith, n, c.larger-end.ensures.second)

pub returns-clause-same : goal.returns-clause-same
returns-clause-same c =
    let end = c.larger-end.ensures.least (length (listed c.args.entries.now)) c.requires.kept c.requires.scope in
    scope_cut (listed c.args.entries.now) (listed c.truncate.new.self) c.larger-end.result c.args.scope c.truncate.ensures.items c.larger-end.ensures.second end

pub returns-clause-extends : goal.returns-clause-extends
returns-clause-extends c = λ es h x.
    extends_cut es (listed c.args.entries.now) (listed c.truncate.new.self) c.larger-end.result c.truncate.ensures.items x (omega (arith, h, c.larger-end.ensures.first))

pub returns-clause-costs : goal.returns-clause-costs
returns-clause-costs c =
    let end = c.larger-end.ensures.least (length (listed c.args.entries.now)) c.requires.kept c.requires.scope in
    costs_cut (listed c.args.entries.now) (listed c.truncate.new.self) c.larger-end.result c.args.scope c.truncate.ensures.items c.larger-end.ensures.second end
