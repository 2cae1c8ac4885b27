use Rattle.std.proofs.Common.{◌≡◌, ◌≤◌, ◌↔◌, ℕ, List, length}
use Rattle.tla_config.specs.Private.LiteralEnds.{Completes}
use Rattle.tla_config.proofs.written.closed.Given as goal

abbrev pub invariant-loop-deep : goal.invariant-loop-deep
invariant-loop-deep l = record {
  same : (text : List ℕ) (to : ℕ) → Completes text l.tokens l.deep l.at to ↔ Completes text l.tokens l.fn.inside.deep l.fn.inside.at to;
  onward : l.fn.inside.at ≤ l.at;
  within : l.at ≤ length l.tokens;
  fewer : l.deep ≤ l.fn.inside.deep;
}

abbrev pub decreases-loop-deep : goal.decreases-loop-deep
decreases-loop-deep l = l.deep
