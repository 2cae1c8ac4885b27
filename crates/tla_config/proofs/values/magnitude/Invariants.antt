use Rattle.std.proofs.Common.{◌≡◌, ◌≤◌, ◌^◌, drop}
use Rattle.tla_lex.specs.Words.{value}
use Rattle.tla_config.proofs.values.magnitude.Given as goal

abbrev pub invariant-loop-b : goal.invariant-loop-b
invariant-loop-b l = record {
  same : value l.n (drop l.b-index l.digits) ≡ value 0 l.digits;
  small : l.n ≤ 2 ^ 63;
}
