use Rattle.std.proofs.Common.{◌≡◌, map, ap, refl}
use Rattle.tla_tree.specs.Tree as t
use Rattle.tla_tree.specs.View.{view, group_view, choice_view, views_items, bound_views_items, arm_views_items}
use Rattle.tla_scopes.proofs.Cheaper.{no_cost}
use Rattle.tla_scopes.proofs.forms.other_form.Goals as goal

pub returns-in-Quantified-clause-same : goal.returns-in-Quantified-clause-same
returns-in-Quantified-clause-same c =
    let m = c.in-Quantified in
    let same : view c.args.tree.now ≡ t.Quantified m.at m.quantifier (t.binders (map group_view m.groups.items)) (view c.deref.result.now) =
    rw (m.is, c.deref.ensures) (ap (λ x. t.Quantified m.at m.quantifier x (view m.body.value)) (bound_views_items m.groups)) in
    λ σ d. rw (same, c.of_quantifier.ensures, c.place_of-in-Quantified.ensures) refl

pub returns-in-Index-clause-same : goal.returns-in-Index-clause-same
returns-in-Index-clause-same c =
    let m = c.in-Index in
    let same : view c.args.tree.now ≡ t.Index m.at (view m.function.value) (t.trees (map view m.arguments.items)) =
    rw m.is (ap (λ x. t.Index m.at (view m.function.value) x) (views_items m.arguments)) in
    λ σ d. rw (same, c.place_of-in-Index.ensures) refl

pub returns-in-None-clause-same : goal.returns-in-None-clause-same
returns-in-None-clause-same c =
    let m = c.in-Case in
    let is = rw c.in-None.is at m.is in
    let same : view c.args.tree.now ≡ t.Case m.at (t.arms (map choice_view m.arms.items)) t.no_other =
    rw is (ap (λ x. t.Case m.at x t.no_other) (arm_views_items m.arms)) in
    λ σ d. rw (same, c.place_of-in-None.ensures) refl

pub returns-in-Some-clause-same : goal.returns-in-Some-clause-same
returns-in-Some-clause-same c =
    let m = c.in-Case in
    let is = rw c.in-Some.is at m.is in
    let same : view c.args.tree.now ≡ t.Case m.at (t.arms (map choice_view m.arms.items)) (t.other (view c.in-Some.last.value)) =
    rw is (ap (λ x. t.Case m.at x (t.other (view c.in-Some.last.value))) (arm_views_items m.arms)) in
    λ σ d. rw (same, c.place_of-in-Some.ensures) refl

pub returns-in-Image-clause-same : goal.returns-in-Image-clause-same
returns-in-Image-clause-same c =
    let m = c.in-Image in
    let same : view c.args.tree.now ≡ t.Image m.at (view c.deref-in-Image.result.now) (t.binders (map group_view m.groups.items)) =
    rw (m.is, c.deref-in-Image.ensures) (ap (λ x. t.Image m.at (view m.body.value) x) (bound_views_items m.groups)) in
    λ σ d. rw (same, c.place_of-in-Image.ensures) refl

pub returns-in-Function-clause-same : goal.returns-in-Function-clause-same
returns-in-Function-clause-same c =
    let m = c.in-Function in
    let same : view c.args.tree.now ≡ t.Function m.at (t.binders (map group_view m.groups.items)) (view c.deref-in-Function.result.now) =
    rw (m.is, c.deref-in-Function.ensures) (ap (λ x. t.Function m.at x (view m.body.value)) (bound_views_items m.groups)) in
    λ σ d. rw (same, c.place_of-in-Function.ensures) refl

pub returns-in-Unary-clause-cost : goal.returns-in-Unary-clause-cost
returns-in-Unary-clause-cost c = no_cost c.prefix_form.result (view c.args.tree.now) c.prefix_form.ensures.cost
