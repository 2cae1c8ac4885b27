use Rattle.std.proofs.Common.{◌≡◌, ◌⊎◌, ℕ, ◌-◌, List, [], ◌∷◌, ◌++◌, length, take, drop, map, refl, sym, ap, ◌∙◌, inl, inr, add-one, arith}
use Rattle.std.proofs.lemmas.List.{map-append}
use Rattle.tla_value.specs.FunLaws.{Pair}
use Rattle.tla_value.specs.declared.value.Value.{Value}
use Rattle.tla_value.specs.TreeOf.{pair_of}
use Rattle.tla_value.proofs.PairMerges.{takes_left, takes_right, takes_both, ends}
use Rattle.tla_value.proofs.Lists.{from_here, rest_of, none_left}
use Rattle.tla_value.proofs.merge_pairs.merged_pairs.Goals as goal
use Rattle.tla_value.proofs.merge_pairs.merged_pairs.Goals.{then-loop-i-test+else-j-right, else-loop-i-test}

one_more : (old new : List (Value × Value)) (p : Value × Value) → new ≡ old ++ p ∷ [] → map pair_of new ≡ map pair_of old ++ pair_of p ∷ []
one_more old new p e = ap (map pair_of) e ∙ map-append pair_of old (p ∷ [])

pub loop-i-preserved-in-Less : goal.loop-i-preserved-in-Less
loop-i-preserved-in-Less c = record {
  left = omega arith;
  right = omega arith;
  merge = rw add-one (takes_left _ _ _ _ _ _ _ _ _ (from_here pair_of c.args.left.now c.loop-i.i c.index-left-i.result c.loop-i-test.true c.index-left-i.is)
      (from_here pair_of c.args.right.now c.loop-i.j c.index-right-j.result c.if-j-right.true c.index-right-j.is) (one_more _ _ _ c.in_ok-keep_pair-in-Less.ensures.ok) (sym c.in-Less.ensures) c.loop-i.invariant.merge);
}

pub loop-i-preserved-in-Equal : goal.loop-i-preserved-in-Equal
loop-i-preserved-in-Equal c = record {
  left = omega arith;
  right = omega arith;
  merge = rw (add-one, add-one) (takes_both _ _ _ _ _ _ _ _ _ (from_here pair_of c.args.left.now c.loop-i.i c.index-left-i.result c.loop-i-test.true c.index-left-i.is)
      (from_here pair_of c.args.right.now c.loop-i.j c.index-right-j.result c.if-j-right.true c.index-right-j.is) (one_more _ _ _ c.in_ok-keep_pair-in-Equal.ensures.ok) (sym c.in-Equal.ensures) c.loop-i.invariant.merge);
}

pub loop-i-preserved : goal.loop-i-preserved
loop-i-preserved c = record {
  left = omega arith;
  right = omega arith;
  merge = rw add-one (takes_right _ _ _ _ _ _ _ _ _ (from_here pair_of c.args.left.now c.loop-i.i c.index-left-i.result c.loop-i-test.true c.index-left-i.is)
      (from_here pair_of c.args.right.now c.loop-i.j c.index-right-j.result c.if-j-right.true c.index-right-j.is) (one_more _ _ _ c.in_ok-keep_pair-in-Greater.ensures.ok) (sym c.in-Greater.ensures) c.loop-i.invariant.merge);
}

pub returns-clause-ok : goal.returns-clause-ok
returns-clause-ok c =
    let left = drop c.loop-i.i (map pair_of c.args.left.now) in
    let right = drop c.loop-i.j (map pair_of c.args.right.now) in
    let m = map pair_of c.loop-i.merged.items in
    let no_more : (left ≡ []) ⊎ (right ≡ []) = elim c.loop-i-test.branch [
      | then-loop-i-test+else-j-right w ↦ inr (none_left pair_of c.args.right.now c.loop-i.j w.if-j-right.false)
      | else-loop-i-test w ↦ inl (none_left pair_of c.args.left.now c.loop-i.i w.loop-i-test.false)
    ] in
    added m left right c.args.left.now c.args.right.now c.loop-i.i c.loop-i.j _ _ c.in_ok-keep_pairs.ensures.ok c.in_ok-keep_pairs-2.ensures.ok refl refl
    ∙ ends m left right (map pair_of c.args.left.now ++ map pair_of c.args.right.now) no_more c.loop-i.invariant.merge
  where
    added : (m left right : List Pair) (us vs : List (Value × Value)) (i j : ℕ) (new newer : List Pair) → new ≡ m ++ map pair_of (take (length us - i) (drop i us)) → newer ≡ new ++ map pair_of (take (length vs - j) (drop j vs))
        → left ≡ drop i (map pair_of us) → right ≡ drop j (map pair_of vs) → newer ≡ (m ++ left) ++ right
    added m left right us vs i j new newer e f l r =
        f ∙ ap (λ ts. ts ++ map pair_of (take (length vs - j) (drop j vs))) (e ∙ ap (λ ts. m ++ ts) (rest_of pair_of us i ∙ sym l)) ∙ ap (λ ts. (m ++ left) ++ ts) (rest_of pair_of vs j ∙ sym r)
