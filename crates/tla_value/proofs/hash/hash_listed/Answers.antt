use Rattle.std.proofs.Common.{◌≡◌, ◌∙◌, ◌+◌, ◌-◌, sym, ap, drop, fold, get_or, map, zip, false, arith, rules, add-one}
use Rattle.std.proofs.lemmas.List.{drop_all}
use Rattle.std.specs.Hash.FoldHasher as folding
use Rattle.tla_value.specs.Tree.{pairs}
use Rattle.tla_value.specs.TreeOf.{tree_of, pair_of}
use Rattle.tla_value.specs.TreeHash.{word_of, tree_writes, pairs_writes, writes_behind, unless_next}
use Rattle.tla_value.specs.declared.value.Value.{Value}
use Rattle.tla_value.specs.declared.value.Value.TheVariants.{Truth}
use Rattle.tla_value.proofs.Pairs.{at-zip, length-zip, map-zip, read_at}
use Rattle.tla_value.proofs.Fed.{fed_first, fed_more}
use Rattle.tla_value.proofs.hash.hash_listed.Goals as goal

-- after the first pair the others remain
pub loop-i-init : goal.loop-i-init
loop-i-init c =
    let ks = c.args.arguments.now in
    let vs = c.args.values.now in
    let k = c.index-arguments-0.result in
    let v = c.index-values-0.result in
    let fed = c.hash-2.ensures ∙ ap (λ s. fold folding.write s (tree_writes (tree_of v))) (c.hash.ensures ∙ ap (λ s. fold folding.write s (tree_writes (tree_of k))) c.default-hasher.ensures) in
    ap (λ s. fold folding.write s (writes_behind (tree_of (get_or ks 0 (Truth false))) (pairs (map pair_of (drop 1 (zip ks vs)))))) fed
    ∙ fed_first ks vs (Truth false) k v c.requires (search rules) c.index-arguments-0.is c.index-values-0.is folding.initial

pub loop-i-preserved : goal.loop-i-preserved
loop-i-preserved c =
    let ks = c.args.arguments.now in
    let vs = c.args.values.now in
    let i = c.loop-i.i in
    let d : Value = Truth false in
    let b = c.index-arguments-i.result in
    let k = c.index-arguments-i-in-loop-i.result in
    let v = c.index-values-i.result in
    let h = c.loop-i.hasher in
    let is = at-zip ks vs i k v (omega (arith, c.requires, c.loop-i-test.true)) c.loop-i-test.true c.index-arguments-i-in-loop-i.is c.index-values-i.is in
    let before : get_or ks (i - 1) d ≡ b = read_at ks (i - 1) d b (omega (arith, c.requires, c.loop-i-test.true)) c.index-arguments-i.is in
    let here : get_or ks (i + 1 - 1) d ≡ k = ap (λ j. get_or ks j d) (omega arith) ∙ read_at ks i d k (omega (arith, c.requires, c.loop-i-test.true)) c.index-arguments-i-in-loop-i.is in
    let more = fed_more (tree_of (get_or ks (i - 1) d)) (zip ks vs) i k v (omega (arith, length-zip ks vs c.requires, c.loop-i-test.true)) is h in
    let fed = c.hash-in-loop-i.ensures ∙ ap (λ s. fold folding.write s (tree_writes (tree_of v))) (c.feed_behind.ensures ∙ ap (λ x. fold folding.write h (unless_next (tree_of x) (tree_of k) (tree_writes (tree_of k)))) (sym before)) in
    (λ j. fold folding.write (fed j) (writes_behind (tree_of (here j)) (pairs (map pair_of (drop (add-one i j) (zip ks vs)))))) ∙ sym more ∙ c.loop-i.invariant

-- after the last pair nothing remains to be written
pub returns : goal.returns
unfolding word_of
returns c =
    let ks = c.args.arguments.now in
    let vs = c.args.values.now in
    let ps = zip ks vs in
    let before = tree_of (get_or ks (c.loop-i.i - 1) (Truth false)) in
    let none = drop_all c.loop-i.i ps (omega (arith, length-zip ks vs c.requires, c.loop-i-test.false)) in
    let fed : c.loop-i.hasher ≡ fold folding.write folding.initial (pairs_writes (pairs (map pair_of ps))) = sym (ap (λ left. fold folding.write c.loop-i.hasher (writes_behind before (pairs (map pair_of left)))) none) ∙ c.loop-i.invariant in
    c.finish.ensures ∙ ap folding.finish fed ∙ ap (λ qs. folding.finish (fold folding.write folding.initial (pairs_writes (pairs qs)))) (map-zip ks vs)
