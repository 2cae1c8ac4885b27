use Rattle.std.proofs.Common.{refl, append-nil}
use Rattle.tla_scopes.specs.Listed.{listed}
use Rattle.tla_scopes.proofs.Indexed.{alone}
use Rattle.tla_scopes.proofs.entries.Entries.lent.Goals as goal

pub returns : goal.returns
unfolding listed
returns c =
    let s = c.args.self.now in
    rw (c.as_slice.ensures.value, c.new.ensures.items, append-nil s.made.items, alone s.known.now s.made.items c.requires) refl

pub invariant_of-result : goal.invariant_of-result
invariant_of-result c =
    let s = c.args.self.now in
    rw (c.as_slice.ensures.value, c.new.ensures.items, append-nil s.made.items) (record { indexed = rw (alone s.known.now s.made.items c.requires) at s.indexed })
