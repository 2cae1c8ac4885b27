use Rattle.std.proofs.Common.{◌++◌, arith, length-append}
use Rattle.tla_scopes.specs.Listed.{listed}
use Rattle.tla_scopes.proofs.Indexed.{entries_length}
use Rattle.tla_scopes.proofs.entries.Entries.len.Goals as goal

pub returns-clause-same : goal.returns-clause-same
unfolding listed
returns-clause-same c =
    let s = c.args.self.now in
    omega (arith, entries_length (s.known.now ++ s.made.items), length-append s.known.now s.made.items)
