use Rattle.std.proofs.Common.{◌≡◌, ◌≤◌, ◌-◌, ◌↔◌, ℕ, length}
use Rattle.tla_config.specs.Private.LiteralEnds.{Begun, EndsAt}
use Rattle.tla_config.proofs.written.literal_end.Given as goal

abbrev pub invariant-loop-at : goal.invariant-loop-at
invariant-loop-at l = record {
  same : (to : ℕ) → Begun l.text l.tokens l.deep l.at to ↔ EndsAt l.text l.tokens l.fn.from to;
  few : l.deep ≤ l.at;
}

abbrev pub decreases-loop-at : goal.decreases-loop-at
decreases-loop-at l = length l.tokens - l.at
