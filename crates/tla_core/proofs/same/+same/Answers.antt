use Rattle.std.proofs.Common.{◌≡◌, ◌∙◌, ℕ, List, rules, map, ap, sym}
use Rattle.std.proofs.lemmas.List.{take_all}
use Rattle.tla_core.specs.Expr.{Expr, enumerated, tuple, record_of}
use Rattle.tla_core.specs.FixedOf.{fixed_of}
use Rattle.tla_core.specs.Private.Known.{exprs, fields, named_fixed}
use Rattle.tla_core.proofs.FixedTrees.{fixed_enumerated, fixed_tuple, fixed_record}
use Rattle.tla_core.proofs.SameTrees.{same_more, same_name}
use Rattle.tla_core.proofs.same.+same.Goals as goal

pub same_tree-returns-in-Constant : goal.same_tree-returns-in-Constant
same_tree-returns-in-Constant t c = λ e. ap fixed_of c.in-Constant.is ∙ c.is_constant.ensures e

pub same_tree-returns-in-Enumerated : goal.same_tree-returns-in-Enumerated
same_tree-returns-in-Enumerated t c = λ e.
    let n = c.in-Enumerated in
    ap fixed_of n.is
    ∙ fixed_enumerated n.place n.parts
    ∙ ap (λ us. enumerated n.place (exprs (map fixed_of us))) (sym c.deref.ensures.value)
    ∙ c.is_enumerated.ensures e

pub same_tree-returns-in-Tuple : goal.same_tree-returns-in-Tuple
same_tree-returns-in-Tuple t c = λ e.
    let n = c.in-Tuple in
    ap fixed_of n.is
    ∙ fixed_tuple n.place n.parts
    ∙ ap (λ us. tuple n.place (exprs (map fixed_of us))) (sym c.deref-in-Tuple.ensures.value)
    ∙ c.is_tuple.ensures e

pub same_tree-returns-in-Record : goal.same_tree-returns-in-Record
same_tree-returns-in-Record t c = λ e.
    let n = c.in-Record in
    ap fixed_of n.is
    ∙ fixed_record n.place n.named
    ∙ ap (λ us. record_of n.place (fields (map named_fixed us))) (sym c.deref-in-Record.ensures.value)
    ∙ c.is_record.ensures e

pub is_enumerated-returns-then-is_place : goal.is_enumerated-returns-then-is_place
is_enumerated-returns-then-is_place t c = λ e.
    let n = c.in-Enumerated in
    ap (λ p. enumerated p (exprs (map fixed_of c.args.parts.now))) (c.is_place.ensures c.if-is_place.true)
    ∙ ap (λ us. enumerated n.at (exprs us)) (c.same_parts.ensures e ∙ ap (map fixed_of) c.deref.ensures.value)
    ∙ sym (ap fixed_of n.is ∙ fixed_enumerated n.at n.others)

pub is_tuple-returns-then-is_place : goal.is_tuple-returns-then-is_place
is_tuple-returns-then-is_place t c = λ e.
    let n = c.in-Tuple in
    ap (λ p. tuple p (exprs (map fixed_of c.args.parts.now))) (c.is_place.ensures c.if-is_place.true)
    ∙ ap (λ us. tuple n.at (exprs us)) (c.same_parts.ensures e ∙ ap (map fixed_of) c.deref.ensures.value)
    ∙ sym (ap fixed_of n.is ∙ fixed_tuple n.at n.others)

pub is_record-returns-then-is_place : goal.is_record-returns-then-is_place
is_record-returns-then-is_place t c = λ e.
    let n = c.in-Record in
    ap (λ p. record_of p (fields (map named_fixed c.args.named.now))) (c.is_place.ensures c.if-is_place.true)
    ∙ ap (λ us. record_of n.at (fields us)) (c.same_fields.ensures e ∙ ap (map named_fixed) c.deref.ensures.value)
    ∙ sym (ap fixed_of n.is ∙ fixed_record n.at n.others)

pub same_parts-loop-i-preserved : goal.same_parts-loop-i-preserved
same_parts-loop-i-preserved t c =
    same_more fixed_of c.args.parts.now c.args.others.now c.loop-i.i c.index-parts-i.result c.index-others-i.result (search rules) (search rules) c.index-parts-i.is c.index-others-i.is (c.same_tree.ensures c.if-not-same_tree.false) c.loop-i.invariant

pub same_parts-returns : goal.same_parts-returns
same_parts-returns t c = λ e.
    sym (ap (map fixed_of) (take_all c.loop-i.i c.args.parts.now (search rules)))
    ∙ c.loop-i.invariant
    ∙ ap (map fixed_of) (take_all c.loop-i.i c.args.others.now (search rules))

pub same_fields-loop-i-preserved : goal.same_fields-loop-i-preserved
same_fields-loop-i-preserved t c =
    let x = c.index-named-i.result in
    let y = c.index-others-i.result in
    let name = same_name x.0 y.0 (sym c.is_name.ensures ∙ c.if-not-is_name.false) in
    let part = c.same_tree.ensures c.if-not-same_tree.false in
    let field : named_fixed x ≡ named_fixed y = ap (λ s. let p : List ℕ × Expr = (s, fixed_of x.1) in p) name ∙ ap (λ e. let p : List ℕ × Expr = (y.0, e) in p) part in
    same_more named_fixed c.args.named.now c.args.others.now c.loop-i.i x y (search rules) (search rules) c.index-named-i.is c.index-others-i.is field c.loop-i.invariant

pub same_fields-returns : goal.same_fields-returns
same_fields-returns t c = λ e.
    sym (ap (map named_fixed) (take_all c.loop-i.i c.args.named.now (search rules)))
    ∙ c.loop-i.invariant
    ∙ ap (map named_fixed) (take_all c.loop-i.i c.args.others.now (search rules))
