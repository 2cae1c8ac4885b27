use Rattle.std.proofs.Common.{rules, ap, ◌∙◌, ◌++◌, [], None, map}
use Rattle.tla_tree.specs.Tree.{trees, arms}
use Rattle.tla_tree.specs.View.{view, key_view, definition_view, choice_view, views_items, bound_views_items, arm_views_items, definition_views_items, field_views_items, update_views_items}
use Rattle.tla_names.specs.Maybe.{or_else}
use Rattle.tla_names.specs.Known.{misused, misused_key, misused_fields, misused_updates, misused_each, misused_arms, misused_sets, misused_definition, misused_definitions, used, new_name}
use Rattle.tla_names.specs.Scope.{plain, bound_names, signatures, count}
use Rattle.tla_names.proofs.Stacks.{count_trees, or_else_none}
use Rattle.tla_names.proofs.resolve.+known.Goals as goal

pub expression-returns-in-Listing-clause-first : goal.expression-returns-in-Listing-clause-first
expression-returns-in-Listing-clause-first t c =
    let m = c.in-Listing in
    let ms = c.args.modules.now in
    let σ = c.args.scope.now in
    rw (ap (λ k. misused ms σ (view k)) m.is ∙ ap (λ x. misused_each ms σ x) (views_items m.items)) (search rules)

pub expression-returns-in-Junction-clause-first : goal.expression-returns-in-Junction-clause-first
expression-returns-in-Junction-clause-first t c =
    let m = c.in-Junction in
    let ms = c.args.modules.now in
    let σ = c.args.scope.now in
    rw (ap (λ k. misused ms σ (view k)) m.is ∙ ap (λ x. misused_each ms σ x) (views_items m.items)) (search rules)

pub expression-returns-in-Call-clause-first : goal.expression-returns-in-Call-clause-first
expression-returns-in-Call-clause-first t c =
    let m = c.in-Call in
    let ms = c.args.modules.now in
    let σ = c.args.scope.now in
    rw (ap (λ k. misused ms σ (view k)) m.is
    ∙ ap (λ x. or_else (used σ m.name (count x)) (misused_each ms σ x)) (views_items m.arguments)
    ∙ ap (λ n. or_else (used σ m.name n) (misused_each ms σ (trees (map view m.arguments.items)))) (count_trees m.arguments.items)) (search rules)

pub expression-returns-in-Index-clause-first : goal.expression-returns-in-Index-clause-first
expression-returns-in-Index-clause-first t c =
    let m = c.in-Index in
    let ms = c.args.modules.now in
    let σ = c.args.scope.now in
    rw (ap (λ k. misused ms σ (view k)) m.is ∙ ap (λ x. or_else (misused ms σ (view m.function.value)) (misused_each ms σ x)) (views_items m.arguments)) (search rules)

pub expression-returns-in-Quantified-clause-first : goal.expression-returns-in-Quantified-clause-first
expression-returns-in-Quantified-clause-first t c =
    let m = c.in-Quantified in
    let ms = c.args.modules.now in
    let σ = c.args.scope.now in
    rw (ap (λ k. misused ms σ (view k)) m.is
    ∙ ap (λ x. or_else (misused_sets ms σ [] x) (misused ms (σ ++ plain (bound_names x)) (view m.body.value))) (bound_views_items m.groups)) (search rules)

pub expression-returns-in-Let-clause-first : goal.expression-returns-in-Let-clause-first
expression-returns-in-Let-clause-first t c =
    let m = c.in-Let in
    let ms = c.args.modules.now in
    let σ = c.args.scope.now in
    rw (ap (λ k. misused ms σ (view k)) m.is
    ∙ ap (λ x. or_else (misused_definitions ms σ x) (misused ms (σ ++ signatures x) (view m.body.value))) (definition_views_items m.definitions)) (search rules)

pub expression-returns-in-None-clause-first : goal.expression-returns-in-None-clause-first
expression-returns-in-None-clause-first t c =
    let m = c.in-Case in
    let ms = c.args.modules.now in
    let σ = c.args.scope.now in
    let is = rw c.in-None.is at m.is in
    rw (ap (λ k. misused ms σ (view k)) is ∙ ap (λ x. or_else (misused_arms ms σ x) None) (arm_views_items m.arms) ∙ or_else_none (misused_arms ms σ (arms (map choice_view m.arms.items)))) (search rules)

pub expression-returns-in-Some-clause-first : goal.expression-returns-in-Some-clause-first
expression-returns-in-Some-clause-first t c =
    let m = c.in-Case in
    let ms = c.args.modules.now in
    let σ = c.args.scope.now in
    let is = rw c.in-Some.is at m.is in
    rw (ap (λ k. misused ms σ (view k)) is ∙ ap (λ x. or_else (misused_arms ms σ x) (misused ms σ (view c.in-Some.value.value))) (arm_views_items m.arms)) (search rules)

pub definition-returns-in-Function-clause-first : goal.definition-returns-in-Function-clause-first
definition-returns-in-Function-clause-first t c =
    let m = c.in-Function in
    let ms = c.args.modules.now in
    let σ = c.args.scope.now in
    rw (ap (λ k. misused_definition ms σ (definition_view k)) m.is
    ∙ ap (λ x. or_else (new_name σ m.name) (or_else (misused_sets ms σ [] x) (misused ms (σ ++ plain (bound_names x)) (view m.body)))) (bound_views_items m.groups)) (search rules)

pub expression-returns-in-Image-clause-first : goal.expression-returns-in-Image-clause-first
expression-returns-in-Image-clause-first t c =
    let m = c.in-Image in
    let ms = c.args.modules.now in
    let σ = c.args.scope.now in
    rw (ap (λ k. misused ms σ (view k)) m.is ∙ ap (λ x. or_else (misused ms (σ ++ plain (bound_names x)) (view m.value.value)) (misused_sets ms σ [] x)) (bound_views_items m.groups)) (search rules)

pub expression-returns-in-Function-clause-first : goal.expression-returns-in-Function-clause-first
expression-returns-in-Function-clause-first t c =
    let m = c.in-Function in
    let ms = c.args.modules.now in
    let σ = c.args.scope.now in
    rw (ap (λ k. misused ms σ (view k)) m.is ∙ ap (λ x. or_else (misused_sets ms σ [] x) (misused ms (σ ++ plain (bound_names x)) (view m.body.value))) (bound_views_items m.groups)) (search rules)

pub expression-returns-in-Record-clause-first : goal.expression-returns-in-Record-clause-first
expression-returns-in-Record-clause-first t c =
    let m = c.in-Record in
    let ms = c.args.modules.now in
    let σ = c.args.scope.now in
    rw (ap (λ k. misused ms σ (view k)) m.is ∙ ap (λ x. misused_fields ms σ [] x) (field_views_items m.fields)) (search rules)

pub expression-returns-in-RecordSet-clause-first : goal.expression-returns-in-RecordSet-clause-first
expression-returns-in-RecordSet-clause-first t c =
    let m = c.in-RecordSet in
    let ms = c.args.modules.now in
    let σ = c.args.scope.now in
    rw (ap (λ k. misused ms σ (view k)) m.is ∙ ap (λ x. misused_fields ms σ [] x) (field_views_items m.fields)) (search rules)

pub expression-returns-in-Except-clause-first : goal.expression-returns-in-Except-clause-first
expression-returns-in-Except-clause-first t c =
    let m = c.in-Except in
    let ms = c.args.modules.now in
    let σ = c.args.scope.now in
    rw (ap (λ k. misused ms σ (view k)) m.is ∙ ap (λ x. or_else (misused ms σ (view m.function.value)) (misused_updates ms σ x)) (update_views_items m.updates)) (search rules)

pub expression-returns-in-Product-clause-first : goal.expression-returns-in-Product-clause-first
expression-returns-in-Product-clause-first t c =
    let m = c.in-Product in
    let ms = c.args.modules.now in
    let σ = c.args.scope.now in
    rw (ap (λ k. misused ms σ (view k)) m.is ∙ ap (λ x. or_else (misused ms σ (view m.first.value)) (misused_each ms σ x)) (views_items m.others)) (search rules)

pub one_key-returns-in-Index-clause-first : goal.one_key-returns-in-Index-clause-first
one_key-returns-in-Index-clause-first t c =
    let m = c.in-Index in
    let ms = c.args.modules.now in
    let σ = c.args.scope.now in
    rw (ap (λ k. misused_key ms σ (key_view k)) m.is ∙ ap (λ x. misused_each ms σ x) (views_items m.arguments)) (search rules)
