use Rattle.std.proofs.Common.{rules, ◌≡◌, ◌<◌, ◌++◌, ◌∷◌, [], length, map, take, Bor, List, sym, ap, subst, ◌∙◌}
use Rattle.std.proofs.lemmas.List.{nil_from_length, length-map, get_or-map, map_more, map_push, take_all}
use Rattle.tla_value.specs.Tree.{Tree}
use Rattle.tla_value.specs.TreeOf.{tree_of}
use Rattle.tla_value.specs.declared.value.Value.{Value}
use Rattle.tla_eval.specs.Private.Wheels.{WheelTree, wheel_tree, wheel_trees, AreFull, left_in}
use Rattle.tla_eval.proofs.Wheels.{full_more, left_made, no_choice}
use Rattle.tla_eval.proofs.odometer.Odometer.new.Goals as goal

abbrev trees : Bor (List Value) → List Tree
trees r = map tree_of r.now

abbrev made : Bor (List Value) → WheelTree
made r = (map tree_of r.now, map tree_of r.now)

pub returns-then-is_empty-clause-ok : goal.returns-then-is_empty-clause-ok
returns-then-is_empty-clause-ok c =
    let lists = c.args.lists.now in
    let i = c.loop-list.list-index in
    let l = c.list-item.result in
    let none : l.now ≡ [] = nil_from_length l.now (search rules) in
    let at = get_or-map trees lists i l (trees l) c.loop-list-test.true ∙ sym (ap trees c.list-item.is) ∙ ap (map tree_of) none in
    sym (no_choice (map trees lists) i (trees l) (subst (λ n. i < n) (sym (length-map lists trees)) c.loop-list-test.true) at)

pub loop-list-preserved : goal.loop-list-preserved
loop-list-preserved c =
    let lists = c.args.lists.now in
    let i = c.loop-list.list-index in
    let l = c.list-item.result in
    let kept = c.loop-list.invariant in
    let pushed : wheel_trees c.push.new.self.items ≡ wheel_trees c.loop-list.wheels.items ++ made l ∷ [] = ap wheel_trees c.in_ok-push.ensures.items ∙ map_push wheel_tree c.loop-list.wheels.items (record { list = l; rest = l }) in
    let some : 0 < length l.now = search rules in
    let long : 0 < length (trees l) = subst (λ n. 0 < n) (sym (length-map l.now tree_of)) some in
    record {
      wheels = pushed
          ∙ ap (λ us. us ++ made l ∷ []) kept.wheels
          ∙ ap (λ (r : Bor (List Value)). map made (take i lists) ++ made r ∷ []) c.list-item.is
          ∙ sym (map_more made lists i l c.loop-list-test.true);
      full = subst AreFull (sym pushed) (full_more (wheel_trees c.loop-list.wheels.items) (made l) kept.full long long);
    }

pub returns-clause-ok : goal.returns-clause-ok
returns-clause-ok c =
    let lists = c.args.lists.now in
    ap left_in (c.loop-list.invariant.wheels ∙ ap (map made) (take_all c.loop-list.list-index lists (search rules)))
    ∙ left_made lists
