use Rattle.std.proofs.Common.{arith}
use Rattle.tla_scopes.specs.Listed.{listed}
use Rattle.tla_scopes.proofs.Indexed.{entries_known, entries_made, indexed_known, indexed_made}
use Rattle.tla_scopes.proofs.entries.Entries.truncate.Goals as goal

pub invariant_of-self : goal.invariant_of-self
invariant_of-self c =
    let s = c.args.self.now in
    record { indexed = indexed_known s.known.now s.made.items c.truncate.new.self.items c.args.end c.truncate.ensures.items (omega arith) s.indexed }

pub invariant_of-self-else-end-lent : goal.invariant_of-self-else-end-lent
invariant_of-self-else-end-lent c =
    let s = c.args.self.now in
    let t = c.truncate-else-end-lent in
    record { indexed = indexed_made s.known.now s.made.items t.new.self.items c.args.end t.ensures.items (omega arith) s.indexed }

pub returns-then-end-lent : goal.returns-then-end-lent
unfolding listed
returns-then-end-lent c =
    let s = c.args.self.now in
    record { items = entries_known s.known.now s.made.items c.truncate.new.self.items c.args.end c.truncate.ensures.items (omega arith) }

pub returns-else-end-lent : goal.returns-else-end-lent
unfolding listed
returns-else-end-lent c =
    let s = c.args.self.now in
    let t = c.truncate-else-end-lent in
    record { items = entries_made s.known.now s.made.items t.new.self.items c.args.end t.ensures.items (omega arith) }
