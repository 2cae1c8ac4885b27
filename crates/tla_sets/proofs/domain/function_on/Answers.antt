use Rattle.std.proofs.Common.{map, [], ◌∷◌, ap, sym, subst, ◌∙◌}
use Rattle.std.proofs.lemmas.List.{length-map}
use Rattle.tla_value.specs.Tree.{Tree}
use Rattle.tla_value.specs.TreeOf.{tree_of}
use Rattle.tla_operators.specs.Evaluated.{tree_of_evaluated}
use Rattle.tla_core.specs.Fault.{Outcome}
use Rattle.tla_operators.specs.Gives.{Gives}
use Rattle.tla_core.specs.Kinds.{as_set}
use Rattle.tla_sets.proofs.Domains.{function_on_single, one_item, one_list, rule_is, long-single}
use Rattle.tla_sets.proofs.domain.function_on.Goals as goal

pub function_with-requires : goal.function_with-requires
function_with-requires c =
    let p = c.args.place.now in
    let xs = c.in_ok-domain.domain in
    let ts = map tree_of_evaluated c.args.sets.now in
    let one = one_item c.args.sets.now c.index-sets-0.result c.requires.one c.index-sets-0.is in
    let all = one_list p ts (tree_of_evaluated c.index-sets-0.result) xs (ap (map tree_of_evaluated) one) (ap (as_set p) (sym c.value.ensures) ∙ c.in_ok-domain.ensures) in
    sym (long-single xs) ∙ sym (c.requires.paired (xs ∷ []) all) ∙ length-map c.args.values.items tree_of

pub returns : goal.returns
returns c =
    let p = c.args.place.now in
    let xs = c.in_ok-domain.domain in
    let vs = map tree_of c.args.values.items in
    let ts = map tree_of_evaluated c.args.sets.now in
    let one = one_item c.args.sets.now c.index-sets-0.result c.requires.one c.index-sets-0.is in
    let all = one_list p ts (tree_of_evaluated c.index-sets-0.result) xs (ap (map tree_of_evaluated) one) (ap (as_set p) (sym c.value.ensures) ∙ c.in_ok-domain.ensures) in
    subst (λ (o : Outcome Tree). Gives c.function_with.result o) (sym (rule_is p ts vs (xs ∷ []) all ∙ function_on_single p xs vs)) c.function_with.ensures
