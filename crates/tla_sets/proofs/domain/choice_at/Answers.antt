use Rattle.std.proofs.Common.{rules, ◌≡◌, ◌<◌, ◌≤◌, ◌%◌, map, length, get_or, sym, ap, subst, ◌∙◌, Some}
use Rattle.std.proofs.Math.Nat.{mod-lt}
use Rattle.tla_value.specs.TreeOf.{tree_of}
use Rattle.tla_value.specs.declared.value.Value.{Value}
use Rattle.tla_sets.proofs.Chosen.{choice_none, choice_step, choice_end, map-reversed}
use Rattle.tla_sets.proofs.domain.choice_at.Goals as goal

pub returns-then-is_empty-clause-ok : goal.returns-then-is_empty-clause-ok
returns-then-is_empty-clause-ok c =
    let none : length c.index-lists-lists.result.now ≡ 0 = search rules in
    sym (c.loop-i.invariant ∙ choice_none c.args.lists.now c.loop-i.i c.index-lists-lists.result c.loop-i-test.true c.index-lists-lists.is c.loop-i.left (map tree_of c.loop-i.choice.items) none)

pub loop-i-preserved : goal.loop-i-preserved
loop-i-preserved c =
    let list = c.index-lists-lists.result.now in
    let k = c.loop-i.left % length list in
    let some : 0 < length list = search rules in
    let same : c.in_ok-copied.field-0 ≡ c.member_at.result.now = search rules in
    c.loop-i.invariant
    ∙ choice_step c.args.lists.now c.loop-i.i c.index-lists-lists.result c.loop-i-test.true c.index-lists-lists.is c.loop-i.left c.loop-i.choice.items c.push.new.self.items c.in_ok-copied.field-0 some
    (subst (λ (x : Value). x ≡ get_or list k x) (sym same) c.member_at.ensures) (mod-lt c.loop-i.left some) c.in_ok-push.ensures.items

pub returns-clause-ok : goal.returns-clause-ok
returns-clause-ok c =
    let end : length c.args.lists.now ≤ c.loop-i.i = search rules in
    let none : c.loop-i.left ≡ 0 = search rules in
    ap (λ us. Some (map tree_of us)) c.reverse.ensures.items
    ∙ ap (λ us. Some us) (map-reversed tree_of c.loop-i.choice.items)
    ∙ sym (c.loop-i.invariant ∙ choice_end c.args.lists.now c.loop-i.i c.loop-i.left (map tree_of c.loop-i.choice.items) end none)
