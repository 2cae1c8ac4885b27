use Rattle.std.proofs.Common.{take}
use Rattle.tla_expand.specs.Private.Walks.{ArePushed}
use Rattle.tla_expand.proofs.cover.push_parts.Given as goal

abbrev pub invariant-loop-i : goal.invariant-loop-i
invariant-loop-i l = record {
  pushed : ArePushed l.fn.remaining.items (take l.i l.items) l.scope l.primes l.remaining.items;
}
