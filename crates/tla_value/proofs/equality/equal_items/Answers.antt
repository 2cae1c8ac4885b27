use Rattle.std.proofs.Common.{◌∙◌, sym, ap, refl, map, rules, add-one}
use Rattle.std.proofs.lemmas.Bool.{false≢true}
use Rattle.std.proofs.lemmas.List.{take_all}
use Rattle.tla_value.specs.TreeOf.{tree_of}
use Rattle.tla_value.proofs.Same.{same_more, other_at}
use Rattle.tla_value.proofs.equality.equal_items.Goals as goal

pub loop-i-preserved : goal.loop-i-preserved
loop-i-preserved c = rw add-one (same_more c.args.a.now c.args.b.now c.loop-i.i c.index-a-i.result c.index-b-i.result (search rules) (search rules) c.index-a-i.is c.index-b-i.is (sym c.equal.ensures ∙ c.if-not-equal.false) c.loop-i.invariant)

pub returns-then-not-equal : goal.returns-then-not-equal
returns-then-not-equal c = (λ e. absurd (false≢true e), λ same. absurd (other_at c.args.a.now c.args.b.now c.loop-i.i c.index-a-i.result c.index-b-i.result (search rules) (search rules) c.index-a-i.is c.index-b-i.is (sym c.equal.ensures ∙ c.if-not-equal.true) same))

pub returns : goal.returns
returns c =
    let a = c.args.a.now in
    let b = c.args.b.now in
    (λ e. sym (ap (map tree_of) (take_all c.loop-i.i a (search rules))) ∙ c.loop-i.invariant ∙ ap (map tree_of) (take_all c.loop-i.i b (search rules)), λ same. refl)
