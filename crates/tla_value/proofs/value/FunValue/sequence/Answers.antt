use Rattle.std.proofs.Common.{rules, ◌≡◌, ◌∙◌, suc, ◌+◌, pos, refl, map, zip, length, sym, ap, subst, arith, IfOk}
use Rattle.std.proofs.lemmas.List.{length-map}
use Rattle.tla_value.specs.Tree.{trees, deepest}
use Rattle.tla_value.specs.TreeOf.{tree_of}
use Rattle.tla_value.specs.IsValue.{IsFunValue}
use Rattle.tla_value.specs.Choices.{counted_up, numbered}
use Rattle.tla_value.specs.Private.Held.{domain_trees, entry_pairs}
use Rattle.tla_value.proofs.Made.{makes_fun, IsValue-fun}
use Rattle.tla_value.proofs.OnDomain.{length-numbered, deepest-numbered, is-sequence}
use Rattle.tla_value.proofs.Tuples.{numbered_is}
use Rattle.tla_value.proofs.value.FunValue.sequence.Goals as goal

pub returns-then-as_slice-gt-MAX_ELEMENTS : goal.returns-then-as_slice-gt-MAX_ELEMENTS
returns-then-as_slice-gt-MAX_ELEMENTS c = omega (arith, length-numbered 1 (map tree_of c.args.values.items), length-map c.args.values.items tree_of, ap length c.as_slice.ensures.value, c.if-as_slice-gt-MAX_ELEMENTS.true)

pub returns-then-deepest-ge-MAX_NESTING : goal.returns-then-deepest-ge-MAX_NESTING
returns-then-deepest-ge-MAX_NESTING c =
    let ts = map tree_of c.args.values.items in
    let deep : c.deepest_of-deepest.result ≡ deepest (trees ts) = c.deepest_of-deepest.ensures.nesting ∙ ap (λ vs. deepest (trees (map tree_of vs))) c.deref.ensures.value in
    (omega (arith, length-numbered 1 ts, length-map c.args.values.items tree_of, ap length c.as_slice.ensures.value, c.if-as_slice-gt-MAX_ELEMENTS.false), omega (arith, deepest-numbered 1 ts, deep, c.if-deepest-ge-MAX_NESTING.true))

same : (c : goal.After-first_numbers-domain) → entry_pairs c.first_numbers-domain.result c.args.values.items ≡ numbered 1 (map tree_of c.args.values.items)
same c =
    let vs = c.args.values.items in
    let long : c.len.result ≡ length vs = search rules in
    let numbers : domain_trees (length vs) c.first_numbers-domain.result ≡ counted_up (length (map tree_of vs)) (pos 1) =
    ap (λ n. domain_trees n c.first_numbers-domain.result) (sym long)
    ∙ c.first_numbers-domain.ensures.numbers
    ∙ ap (λ n. counted_up n (pos 1)) (long ∙ sym (length-map vs tree_of)) in
    ap (λ ks. zip ks (map tree_of vs)) numbers
    ∙ numbered_is 1 (map tree_of vs)

pub from_parts-requires-clause-value : goal.from_parts-requires-clause-value
from_parts-requires-clause-value c =
    let ts = map tree_of c.args.values.items in
    let deep : c.deepest_of-deepest.result ≡ deepest (trees ts) = c.deepest_of-deepest.ensures.nesting ∙ ap (λ vs. deepest (trees (map tree_of vs))) c.deref.ensures.value in
    subst (λ ps. IsFunValue ps (c.deepest_of-deepest.result + 1)) (sym (same c))
    (is-sequence ts (c.deepest_of-deepest.result + 1) (omega (arith, length-map c.args.values.items tree_of, ap length c.as_slice.ensures.value, c.if-as_slice-gt-MAX_ELEMENTS.false)) (rw c.deref.ensures.value at c.deepest_of-deepest.ensures.values)
    (omega (arith, deep, c.if-deepest-ge-MAX_NESTING.false)) (omega (arith, deep)))

pub returns : goal.returns
returns c =
    let vs = c.args.values.items in
    let ts = map tree_of vs in
    let deep : c.deepest_of-deepest.result ≡ deepest (trees ts) = c.deepest_of-deepest.ensures.nesting ∙ ap (λ us. deepest (trees (map tree_of us))) c.deref.ensures.value in
    let long : c.len.result ≡ length vs = search rules in
    let numbers : domain_trees (length vs) c.first_numbers-domain.result ≡ counted_up (length ts) (pos 1) =
    ap (λ n. domain_trees n c.first_numbers-domain.result) (sym long)
    ∙ c.first_numbers-domain.ensures.numbers
    ∙ ap (λ n. counted_up n (pos 1)) (long ∙ sym (length-map vs tree_of)) in
    let is : entry_pairs c.first_numbers-domain.result vs ≡ numbered 1 ts = ap (λ ks. zip ks ts) numbers ∙ numbered_is 1 ts in
    makes_fun (numbered 1 ts) c.from_parts.result (subst (λ ps. IfOk c.from_parts.result (λ f. f ≡ ps)) is c.from_parts.ensures.ok) c.from_parts.ensures.err
    (IsValue-fun (numbered 1 ts) _ (is-sequence ts (suc (deepest (trees ts))) (omega (arith, length-map vs tree_of, ap length c.as_slice.ensures.value, c.if-as_slice-gt-MAX_ELEMENTS.false)) (rw c.deref.ensures.value at c.deepest_of-deepest.ensures.values)
    (omega (arith, deep, c.if-deepest-ge-MAX_NESTING.false)) refl))
