use Rattle.std.proofs.Common.{◌≡◌, ◌++◌, drop, map, fold}
use Rattle.std.specs.Hash as fed
use Rattle.std.specs.Hash.FoldHasher as folding
use Rattle.tla_value.specs.Tree.{trees}
use Rattle.tla_value.specs.TreeOf.{tree_of}
use Rattle.tla_value.specs.TreeHash.{trees_writes}
use Rattle.tla_value.proofs.hash.hash_numbered.Given as goal

-- the rest is still to be written
abbrev pub invariant-loop-value : goal.invariant-loop-value
invariant-loop-value l = fold folding.write l.hasher (trees_writes (trees (map tree_of (drop l.value-index l.values)))) ≡ fold folding.write folding.initial (fed.i64 l.fn.first ++ trees_writes (trees (map tree_of l.values)))
