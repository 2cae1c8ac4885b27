use Rattle.std.proofs.Common.{◌≡◌, ◌<◌, drop}
use Rattle.tla_scopes.specs.Private.Index.{hash_from, hash_of}
use Rattle.tla_scopes.proofs.index.name_hash.Given as goal

abbrev pub invariant-loop-i : goal.invariant-loop-i
invariant-loop-i l = record {
  small : l.hash < 65521;
  same : hash_from l.hash (drop l.i l.name) ≡ hash_of l.name;
}
