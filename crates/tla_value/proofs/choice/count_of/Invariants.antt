use Rattle.std.proofs.Common.{◌≡◌, ◌*◌, ◌≤◌, drop, map}
use Rattle.tla_value.specs.Private.Inner.{ways}
use Rattle.tla_value.proofs.choice.count_of.Given as goal

abbrev pub invariant-loop-set : goal.invariant-loop-set
invariant-loop-set l = record {
  few : l.count ≤ 1000000;
  rest : l.count * ways (map (λ s. s.now) (drop l.set-index l.sets)) ≡ ways (map (λ s. s.now) l.sets);
}
