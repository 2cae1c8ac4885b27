use Rattle.std.proofs.Common.{◌≡◌, ◌++◌, take}
use Rattle.tla_value.proofs.merge_pairs.keep_pairs.Given as goal

abbrev pub invariant-loop-pair : goal.invariant-loop-pair
invariant-loop-pair l = l.kept.items ≡ l.initial.kept.items ++ take l.pair-index l.pairs
