use Rattle.std.proofs.Common.{List, map, zip, subst, sym, ◌∙◌, refl}
use Rattle.std.proofs.lemmas.List.{length-map}
use Rattle.std.specs.List.Sorted.{IsStrictlySortedBy}
use Rattle.tla_value.specs.Tree.{Tree}
use Rattle.tla_value.specs.TreeOf.{tree_of}
use Rattle.tla_value.specs.Order.{tree_cmp}
use Rattle.tla_value.specs.FunLaws.{is-fun_of}
use Rattle.tla_core.specs.Kinds.{rising_fun}
use Rattle.tla_operators.specs.Gives.{Gives}
use Rattle.tla_sets.proofs.Domains.{arguments_zip}
use Rattle.tla_sets.proofs.domain.function_with.Goals as goal

pub returns : goal.returns
returns c =
    let ks = c.args.domain.now in
    let vs = map tree_of c.args.values.items in
    let ps = zip ks vs in
    let long = length-map c.args.values.items tree_of ∙ sym c.requires in
    let rising = subst (IsStrictlySortedBy tree_cmp) (sym (arguments_zip ks vs long)) c.items-rising.ensures.rising in
    subst (λ (qs : List (Tree × Tree)). Gives c.made_fun.result (rising_fun c.args.place.now qs)) (is-fun_of ps ps rising (λ q. refl)) (c.made_fun.ensures ps c.on.ensures)
