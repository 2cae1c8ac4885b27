use Rattle.std.proofs.Common.{◌≡◌, ◌∙◌, sym, ap, fold, map}
use Rattle.std.proofs.lemmas.List.{drop_all}
use Rattle.std.specs.Hash.FoldHasher as folding
use Rattle.tla_value.specs.Tree.{trees}
use Rattle.tla_value.specs.TreeOf.{tree_of}
use Rattle.tla_value.specs.TreeHash.{word_of, trees_writes}
use Rattle.tla_value.proofs.hash.hash_items.Goals as goal

-- after the last member nothing remains to be written
pub returns : goal.returns
unfolding word_of
returns c =
    let none = drop_all c.loop-item.item-index c.args.items.now c.loop-item-test.false in
    let fed : c.loop-item.hasher ≡ fold folding.write folding.initial (trees_writes (trees (map tree_of c.args.items.now))) = sym (ap (λ left. fold folding.write c.loop-item.hasher (trees_writes (trees (map tree_of left)))) none) ∙ c.loop-item.invariant in
    c.finish.ensures ∙ ap folding.finish fed
