use Rattle.std.proofs.Common.{rules, ◌≡◌, ap, ◌∙◌, ◌++◌, ◌∷◌, [], List, map, Result, Ok, Err, append-nil, append_assoc, refl}
use Rattle.std.specs.Prelude.{OnOk}
use Rattle.tla_tree.specs.Tree.{arms}
use Rattle.tla_tree.specs.View.{view, choice_view, definition_view, key_view, views_items, bound_views_items, arm_views_items, definition_views_items, field_views_items, update_views_items}
use Rattle.tla_config.specs.Names.{Name}
use Rattle.tla_items.specs.References.{names_in, names_each, names_sets, names_arms, names_fields, names_updates, names_key, names_definition, names_definitions}
use Rattle.tla_items.proofs.names_in.+names_in.Goals as goal

-- names pushed in two steps
on_two : {E : Type 0} (r : Result (Unit {0}) E) (new mid a b c : List Name) → mid ≡ a ++ b → OnOk r (new ≡ mid ++ c) → OnOk r (new ≡ a ++ (b ++ c))
on_two (Ok u) new mid a b c h p = p ∙ ap (λ xs. xs ++ c) h ∙ rw append_assoc refl
on_two (Err e) new mid a b c h p = tt

pub expression-returns-in-Listing-clause-ok : goal.expression-returns-in-Listing-clause-ok
expression-returns-in-Listing-clause-ok t c =
    let m = c.in-Listing in
    rw (ap (λ k. names_in (view k)) m.is ∙ ap names_each (views_items m.items)) (search rules)

pub expression-returns-in-Junction-clause-ok : goal.expression-returns-in-Junction-clause-ok
expression-returns-in-Junction-clause-ok t c =
    let m = c.in-Junction in
    rw (ap (λ k. names_in (view k)) m.is ∙ ap names_each (views_items m.items)) (search rules)

pub expression-returns-in-Index-clause-ok : goal.expression-returns-in-Index-clause-ok
expression-returns-in-Index-clause-ok t c =
    let m = c.in-Index in
    rw (ap (λ k. names_in (view k)) m.is ∙ ap (λ x. names_in (view m.function.value) ++ names_each x) (views_items m.arguments)) (search rules)

pub expression-returns-in-Product-clause-ok : goal.expression-returns-in-Product-clause-ok
expression-returns-in-Product-clause-ok t c =
    let m = c.in-Product in
    rw (ap (λ k. names_in (view k)) m.is ∙ ap (λ x. names_in (view m.first.value) ++ names_each x) (views_items m.others)) (search rules)

pub expression-returns-in-Quantified-clause-ok : goal.expression-returns-in-Quantified-clause-ok
expression-returns-in-Quantified-clause-ok t c =
    let m = c.in-Quantified in
    rw (ap (λ k. names_in (view k)) m.is ∙ ap (λ x. names_sets x ++ names_in (view m.body.value)) (bound_views_items m.groups)) (search rules)

pub expression-returns-in-Image-clause-ok : goal.expression-returns-in-Image-clause-ok
expression-returns-in-Image-clause-ok t c =
    let m = c.in-Image in
    rw (ap (λ k. names_in (view k)) m.is ∙ ap (λ x. names_sets x ++ names_in (view m.body.value)) (bound_views_items m.groups)) (search rules)

pub expression-returns-in-Function-clause-ok : goal.expression-returns-in-Function-clause-ok
expression-returns-in-Function-clause-ok t c =
    let m = c.in-Function in
    rw (ap (λ k. names_in (view k)) m.is ∙ ap (λ x. names_sets x ++ names_in (view m.body.value)) (bound_views_items m.groups)) (search rules)

pub expression-returns-in-Let-clause-ok : goal.expression-returns-in-Let-clause-ok
expression-returns-in-Let-clause-ok t c =
    let m = c.in-Let in
    rw (ap (λ k. names_in (view k)) m.is ∙ ap (λ x. names_definitions x ++ names_in (view m.body.value)) (definition_views_items m.items)) (search rules)

pub expression-returns-in-Record-clause-ok : goal.expression-returns-in-Record-clause-ok
expression-returns-in-Record-clause-ok t c =
    let m = c.in-Record in
    rw (ap (λ k. names_in (view k)) m.is ∙ ap names_fields (field_views_items m.items)) (search rules)

pub expression-returns-in-RecordSet-clause-ok : goal.expression-returns-in-RecordSet-clause-ok
expression-returns-in-RecordSet-clause-ok t c =
    let m = c.in-RecordSet in
    rw (ap (λ k. names_in (view k)) m.is ∙ ap names_fields (field_views_items m.items)) (search rules)

pub expression-returns-in-Except-clause-ok : goal.expression-returns-in-Except-clause-ok
expression-returns-in-Except-clause-ok t c =
    let m = c.in-Except in
    rw (ap (λ k. names_in (view k)) m.is ∙ ap (λ x. names_in (view m.function.value) ++ names_updates x) (update_views_items m.items)) (search rules)

pub expression-returns-in_ok-push-in-Call-clause-ok : goal.expression-returns-in_ok-push-in-Call-clause-ok
expression-returns-in_ok-push-in-Call-clause-ok t c =
    let m = c.in-Call in
    let each = rw c.deref-in-Call.ensures.value at c.each-in-Call.ensures.ok in
    rw (ap (λ k. names_in (view k)) m.is ∙ ap (λ x. m.name.word ∷ names_each x) (views_items m.arguments))
    (on_two c.each-in-Call.result c.each-in-Call.new.names c.push-in-Call.new.self c.args.names.now (m.name.word ∷ []) _ c.in_ok-push-in-Call.ensures.ok each)

pub expression-returns-in-None-clause-ok : goal.expression-returns-in-None-clause-ok
expression-returns-in-None-clause-ok t c =
    let m = c.in-Case in
    let is = rw c.in-None.is at m.is in
    rw (ap (λ k. names_in (view k)) is ∙ ap (λ x. names_arms x ++ []) (arm_views_items m.items) ∙ append-nil (names_arms (arms (map choice_view m.items.items)))) (search rules)

pub expression-returns-in_ok-each_arm-in-Some-clause-ok : goal.expression-returns-in_ok-each_arm-in-Some-clause-ok
expression-returns-in_ok-each_arm-in-Some-clause-ok t c =
    let m = c.in-Case in
    let is = rw c.in-Some.is at m.is in
    let first = rw c.deref-in-Some.ensures.value at c.in_ok-each_arm-in-Some.ensures.ok in
    let second = rw c.deref-in-Some-2.ensures at c.expression-in-Some.ensures.ok in
    rw (ap (λ k. names_in (view k)) is ∙ ap (λ x. names_arms x ++ names_in (view c.in-Some.value.value)) (arm_views_items m.items))
    (on_two c.expression-in-Some.result c.expression-in-Some.new.names c.each_arm-in-Some.new.names c.args.names.now (names_arms (arms (map choice_view m.items.items))) _ first second)

pub definition-returns-in-Function-clause-ok : goal.definition-returns-in-Function-clause-ok
definition-returns-in-Function-clause-ok t c =
    let m = c.in-Function in
    rw (ap (λ k. names_definition (definition_view k)) m.is ∙ ap (λ x. names_sets x ++ names_in (view m.body)) (bound_views_items m.groups)) (search rules)

pub one_key-returns-in-Index-clause-ok : goal.one_key-returns-in-Index-clause-ok
one_key-returns-in-Index-clause-ok t c =
    let m = c.in-Index in
    rw (ap (λ k. names_key (key_view k)) m.is ∙ ap names_each (views_items m.arguments)) (search rules)
