use Rattle.std.proofs.Common.{◌≡◌, ◌∙◌, suc, max, ◌+◌, refl, map, zip, length, sym, ap, subst, arith, IfOk}
use Rattle.std.proofs.lemmas.List.{length-map}
use Rattle.tla_value.specs.Tree.{trees, deepest, members-trees}
use Rattle.tla_value.specs.TreeOf.{tree_of}
use Rattle.tla_value.specs.IsValue.{IsSetList, IsFunValue}
use Rattle.tla_value.proofs.Made.{makes_fun, IsValue-fun}
use Rattle.tla_value.specs.Private.Falls.{deepest-both}
use Rattle.tla_value.proofs.OnDomain.{on_entry, is-on}
use Rattle.tla_value.proofs.Pairs.{length-zip}
use Rattle.tla_value.proofs.value.FunValue.on.Goals as goal

pub returns-then-deepest-ge-MAX_NESTING : goal.returns-then-deepest-ge-MAX_NESTING
returns-then-deepest-ge-MAX_NESTING c =
    let ks = c.args.domain.now in
    let ts = map tree_of c.args.values.items in
    let long : length ks ≡ length ts = omega (arith, c.requires, length-map c.args.values.items tree_of) in
    let list : IsSetList ks = subst IsSetList (members-trees ks) c.nesting.ensures.value.1 in
    let few = list.few in
    let deep : c.deepest_of.result ≡ deepest (trees ts) = c.deepest_of.ensures.nesting ∙ ap (λ vs. deepest (trees (map tree_of vs))) c.deref.ensures.value in
    (omega (arith, few, long, length-zip ks ts long), omega (arith, deepest-both ks ts long, deep, c.nesting.ensures.nesting, c.max-deepest.ensures, c.if-deepest-ge-MAX_NESTING.true))

pub from_parts-requires-clause-value : goal.from_parts-requires-clause-value
from_parts-requires-clause-value c =
    let ks = c.args.domain.now in
    let ts = map tree_of c.args.values.items in
    let long : length ks ≡ length ts = omega (arith, c.requires, length-map c.args.values.items tree_of) in
    let list : IsSetList ks = subst IsSetList (members-trees ks) c.nesting.ensures.value.1 in
    let deep : c.deepest_of.result ≡ deepest (trees ts) = c.deepest_of.ensures.nesting ∙ ap (λ vs. deepest (trees (map tree_of vs))) c.deref.ensures.value in
    subst (λ ps. IsFunValue ps (c.max-deepest.result + 1)) (sym (on_entry c.in_ok-domain.domain c.args.values.items ks c.requires c.in_ok-domain.ensures.ok))
    (is-on ks ts (c.max-deepest.result + 1) list c.nesting.ensures.value.0 (rw c.deref.ensures.value at c.deepest_of.ensures.values) long
    (omega (arith, deep, c.max-deepest.ensures, c.if-deepest-ge-MAX_NESTING.false))
    (omega (arith, deep, c.nesting.ensures.nesting, c.max-deepest.ensures)))

pub returns : goal.returns
returns c =
    let ks = c.args.domain.now in
    let ts = map tree_of c.args.values.items in
    let long : length ks ≡ length ts = omega (arith, c.requires, length-map c.args.values.items tree_of) in
    let list : IsSetList ks = subst IsSetList (members-trees ks) c.nesting.ensures.value.1 in
    let deep : c.deepest_of.result ≡ deepest (trees ts) = c.deepest_of.ensures.nesting ∙ ap (λ vs. deepest (trees (map tree_of vs))) c.deref.ensures.value in
    let same = on_entry c.in_ok-domain.domain c.args.values.items ks c.requires c.in_ok-domain.ensures.ok in
    makes_fun (zip ks ts) c.from_parts.result (subst (λ ps. IfOk c.from_parts.result (λ f. f ≡ ps)) same c.from_parts.ensures.ok) c.from_parts.ensures.err
    (IsValue-fun (zip ks ts) _ (is-on ks ts (suc (max (deepest (trees ks)) (deepest (trees ts)))) list c.nesting.ensures.value.0 (rw c.deref.ensures.value at c.deepest_of.ensures.values) long
    (omega (arith, deep, c.max-deepest.ensures, c.if-deepest-ge-MAX_NESTING.false)) refl))
