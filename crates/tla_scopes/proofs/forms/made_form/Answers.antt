use Rattle.std.proofs.Common.{◌≡◌, map, ap, refl}
use Rattle.tla_tree.specs.Tree as t
use Rattle.tla_tree.specs.View.{view, field_view, update_view, views_items, field_views_items, update_views_items}
use Rattle.tla_scopes.proofs.forms.made_form.Goals as goal

pub returns-in-Record-clause-same : goal.returns-in-Record-clause-same
returns-in-Record-clause-same c =
    let m = c.in-Record in
    let same : view c.args.tree.now ≡ t.Record m.at (t.fields (map field_view m.fields.items)) = rw m.is (ap (λ x. t.Record m.at x) (field_views_items m.fields)) in
    λ σ d. rw (same, c.place_of-in-Record.ensures) refl

pub returns-in-RecordSet-clause-same : goal.returns-in-RecordSet-clause-same
returns-in-RecordSet-clause-same c =
    let m = c.in-RecordSet in
    let same : view c.args.tree.now ≡ t.RecordSet m.at (t.fields (map field_view m.fields.items)) =
    rw m.is (ap (λ x. t.RecordSet m.at x) (field_views_items m.fields)) in
    λ σ d. rw (same, c.place_of-in-RecordSet.ensures) refl

pub returns-in-Product-clause-same : goal.returns-in-Product-clause-same
returns-in-Product-clause-same c =
    let m = c.in-Product in
    let same : view c.args.tree.now ≡ t.Product m.at (view m.first.value) (t.trees (map view m.others.items)) =
    rw m.is (ap (λ x. t.Product m.at (view m.first.value) x) (views_items m.others)) in
    λ σ d. rw (same, c.place_of-in-Product.ensures) refl

pub returns-in-Except-clause-same : goal.returns-in-Except-clause-same
returns-in-Except-clause-same c =
    let m = c.in-Except in
    let same : view c.args.tree.now ≡ t.Except m.at (view m.function.value) (t.updates (map update_view m.updates.items)) =
    rw m.is (ap (λ x. t.Except m.at (view m.function.value) x) (update_views_items m.updates)) in
    λ σ d. rw (same, c.place_of-in-Except.ensures) refl
