use Rattle.std.proofs.Common.{is_ok, ◌++◌}
use Rattle.tla_scopes.specs.declared.entries.Node.{Node}
use Rattle.tla_scopes.specs.Listed.{listed}
use Rattle.tla_scopes.proofs.Indexed.{entries_more, node_added, pushed}
use Rattle.tla_scopes.proofs.entries.Entries.push.Goals as goal

pub invariant_of-self : goal.invariant_of-self
unfolding listed
invariant_of-self c =
    let s = c.args.self.now in
    let j = c.jumps_from-jumps in
    let n : Node = record { entry = c.args.entry; hash = c.name_hash-hash.result; jumps = j.result } in
    let added = node_added (s.known.now ++ s.made.items) n c.requires c.name_hash-hash.ensures j.ensures.below j.ensures.same s.indexed in
    record { indexed = rw c.push.ensures.items (pushed (is_ok c.push.result) s.known.now s.made.items n s.indexed added) }

pub returns-clause-ok : goal.returns-clause-ok
unfolding listed
returns-clause-ok c =
    let s = c.args.self.now in
    let n : Node = record { entry = c.args.entry; hash = c.name_hash-hash.result; jumps = c.jumps_from-jumps.result } in
    entries_more s.known.now s.made.items c.push.new.self.items n c.in_ok-push.ensures.items
