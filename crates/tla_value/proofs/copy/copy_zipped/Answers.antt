use Rattle.std.proofs.Common.{◌∙◌, ◌++◌, ◌∷◌, [], take, zip, map, sym, ap, arith, add-one}
use Rattle.std.proofs.Math.Seq.{take-suc}
use Rattle.std.proofs.lemmas.List.{take_all}
use Rattle.tla_value.specs.TreeOf.{pair_of}
use Rattle.tla_value.proofs.Pairs.{at-zip, length-zip}
use Rattle.tla_value.proofs.copy.copy_zipped.Goals as goal

pub loop-i-preserved : goal.loop-i-preserved
loop-i-preserved c =
    let ks = c.args.arguments.now in
    let vs = c.args.values.now in
    let k = c.index-arguments-i.result in
    let v = c.index-values-i.result in
    let is = at-zip ks vs c.loop-i.i k v (omega (arith, c.requires, c.loop-i-test.true)) c.loop-i-test.true c.index-arguments-i.is c.index-values-i.is in
    rw add-one
    (c.in_ok-push.ensures.items
    ∙ (λ j. c.loop-i.invariant j ++ c.in_ok-copy_pair.ensures.ok j ∷ [])
    ∙ ap (λ p. take c.loop-i.i (zip ks vs) ++ p ∷ []) is
    ∙ sym (take-suc (zip ks vs) c.loop-i.i (k, v) (omega (arith, length-zip ks vs c.requires, c.loop-i-test.true))))

pub returns-clause-ok : goal.returns-clause-ok
returns-clause-ok c =
    let ks = c.args.arguments.now in
    let vs = c.args.values.now in
    ap (map pair_of) (c.loop-i.invariant ∙ take_all c.loop-i.i (zip ks vs) (omega (arith, length-zip ks vs c.requires, c.loop-i-test.false)))
