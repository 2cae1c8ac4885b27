use Rattle.std.proofs.Common.{refl}
use Rattle.tla_scopes.specs.Listed.{listed}
use Rattle.tla_scopes.proofs.entries.Entries.new.Goals as goal

pub returns-clause-none : goal.returns-clause-none
unfolding listed
returns-clause-none c = rw c.new.ensures.items refl

pub invariant_of-result : goal.invariant_of-result
invariant_of-result c = rw c.new.ensures.items (record { indexed = record { indexed = tt } })
