use Rattle.std.proofs.Common.{map, ap, ◌∙◌, ◌^◌, add-one, arith}
use Rattle.std.proofs.lemmas.List.{length-map, take_all}
use Rattle.tla_value.specs.TreeOf.{tree_of}
use Rattle.tla_value.proofs.Sublists.{is-set_list, subset_more, length-subsets_of}
use Rattle.tla_value.proofs.choice.subsets.Goals as goal

pub set_within-requires : goal.set_within-requires
set_within-requires c = is-set_list (map tree_of c.args.items.now) c.loop-number.number _ c.requires.value c.in_ok-items.ensures.ok

pub loop-number-preserved : goal.loop-number-preserved
loop-number-preserved c =
    rw add-one (subset_more (map tree_of c.args.items.now) _ _ _ c.loop-number.number c.requires.value
    (omega (arith, c.requires.count, ap (λ n. 2 ^ n) (length-map c.args.items.now tree_of))) c.in_ok-push.ensures.items (c.in_ok-set_within.ensures.ok ∙ c.in_ok-items.ensures.ok) c.loop-number.invariant)

pub returns-clause-ok : goal.returns-clause-ok
returns-clause-ok c =
    c.loop-number.invariant
    ∙ take_all _ _ (omega (arith, length-subsets_of (map tree_of c.args.items.now), c.requires.count, ap (λ n. 2 ^ n) (length-map c.args.items.now tree_of)))
