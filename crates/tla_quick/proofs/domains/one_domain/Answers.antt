use Rattle.std.proofs.Common.{map, [], ◌∷◌, ap, sym, ◌∙◌}
use Rattle.tla_operators.specs.Evaluated.{tree_of_evaluated}
use Rattle.tla_core.specs.Kinds.{as_set}
use Rattle.tla_sets.proofs.Domains.{function_on_single, one_item, one_list, rule_is, long-single}
use Rattle.tla_quick.proofs.domains.one_domain.Goals as goal

pub returns : goal.returns
returns c ys paired =
    let p = c.args.place.now in
    let xs = c.in_ok-domain.domain in
    let ts = map tree_of_evaluated c.args.sets.now in
    let one = one_item c.args.sets.now c.index-sets-0.result c.requires c.index-sets-0.is in
    let all = one_list p ts (tree_of_evaluated c.index-sets-0.result) xs (ap (map tree_of_evaluated) one) (ap (as_set p) (sym c.value.ensures) ∙ c.in_ok-domain.ensures) in
    (sym (long-single xs) ∙ sym (paired (xs ∷ []) all), rule_is p ts ys (xs ∷ []) all ∙ function_on_single p xs ys)
