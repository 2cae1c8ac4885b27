use Rattle.std.proofs.Common.{◌≡◌, ◌≤◌, ◌<◌, ℕ, true}
use Rattle.tla_expand.specs.Private.Walks.{among}
use Rattle.tla_expand.proofs.cover.has_each.Given as goal

abbrev pub invariant-loop-remaining : goal.invariant-loop-remaining
invariant-loop-remaining l = record {
  within : l.remaining ≤ l.fn.variables;
  found : (i : ℕ) → l.remaining ≤ i → i < l.fn.variables → among l.found.keys i ≡ true;
}

abbrev pub decreases-loop-remaining : goal.decreases-loop-remaining
decreases-loop-remaining l = l.remaining
