use Rattle.std.proofs.Common.{◌≡◌, ◌-◌, drop, map, zip, get_or, fold, false}
use Rattle.std.specs.Hash.FoldHasher as folding
use Rattle.tla_value.specs.Tree.{pairs}
use Rattle.tla_value.specs.TreeOf.{tree_of, pair_of}
use Rattle.tla_value.specs.TreeHash.{pairs_writes, writes_behind}
use Rattle.tla_value.specs.declared.value.Value.TheVariants.{Truth}
use Rattle.tla_value.proofs.hash.hash_listed.Given as goal

-- the rest is still to be written, after the argument before
abbrev pub invariant-loop-i : goal.invariant-loop-i
invariant-loop-i l =
    let ps = zip l.arguments l.values in
    let before = get_or l.arguments (l.i - 1) (Truth false) in
    fold folding.write l.hasher (writes_behind (tree_of before) (pairs (map pair_of (drop l.i ps)))) ≡ fold folding.write folding.initial (pairs_writes (pairs (map pair_of ps)))
