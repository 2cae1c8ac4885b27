use Rattle.std.proofs.Common.{◌≡◌, drop, map, fold}
use Rattle.std.specs.Hash.FoldHasher as folding
use Rattle.tla_value.specs.Tree.{trees}
use Rattle.tla_value.specs.TreeOf.{tree_of}
use Rattle.tla_value.specs.TreeHash.{trees_writes}
use Rattle.tla_value.proofs.hash.hash_items.Given as goal

-- the rest is still to be written
abbrev pub invariant-loop-item : goal.invariant-loop-item
invariant-loop-item l = fold folding.write l.hasher (trees_writes (trees (map tree_of (drop l.item-index l.items)))) ≡ fold folding.write folding.initial (trees_writes (trees (map tree_of l.items)))
