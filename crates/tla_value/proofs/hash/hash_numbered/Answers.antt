use Rattle.std.proofs.Common.{◌≡◌, ◌∙◌, ◌++◌, sym, ap, fold, map, length, to_z, of_z, w64, arith}
use Rattle.std.proofs.lemmas.Int.{ints}
use Rattle.std.proofs.lemmas.List.{drop_all, length-map}
use Rattle.std.specs.Hash as fed
use Rattle.std.specs.Hash.FoldHasher as folding
use Rattle.tla_value.specs.Tree.{trees}
use Rattle.tla_value.specs.TreeOf.{tree_of}
use Rattle.tla_value.specs.TreeHash.{word_of, trees_writes}
use Rattle.tla_value.proofs.Fed.{fed_numbers}
use Rattle.tla_value.proofs.hash.hash_numbered.Goals as goal

-- after the last value nothing remains to be written
pub returns : goal.returns
unfolding word_of
returns c =
    let vs = c.args.values.now in
    let ts = trees (map tree_of vs) in
    let same : to_z w64 (of_z w64 c.args.first) ≡ c.args.first = omega (arith, ints) in
    let none = drop_all c.loop-value.value-index vs c.loop-value-test.false in
    let fed : c.loop-value.hasher ≡ fold folding.write folding.initial (fed.i64 c.args.first ++ trees_writes ts) =
    sym (ap (λ left. fold folding.write c.loop-value.hasher (trees_writes (trees (map tree_of left)))) none) ∙ c.loop-value.invariant ∙ ap (λ z. fold folding.write folding.initial (fed.i64 z ++ trees_writes ts)) same in
    c.finish.ensures ∙ ap folding.finish fed
    ∙ ap (λ ws. folding.finish (fold folding.write folding.initial ws)) (sym (fed_numbers (length vs) c.args.first (map tree_of vs) (length-map vs tree_of) c.requires))
