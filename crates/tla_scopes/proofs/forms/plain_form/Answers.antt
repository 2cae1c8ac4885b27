use Rattle.std.proofs.Common.{◌≡◌, map, ap}
use Rattle.tla_tree.specs.Tree as t
use Rattle.tla_tree.specs.View.{view, views_items}
use Rattle.tla_scopes.proofs.Steps.{expand_listing, expand_junction}
use Rattle.tla_scopes.proofs.Cheaper.{listing_cost}
use Rattle.tla_scopes.proofs.forms.plain_form.Goals as goal

pub returns-in-Listing-clause-same : goal.returns-in-Listing-clause-same
returns-in-Listing-clause-same c =
    let m = c.in-Listing in
    let same : view c.args.tree.now ≡ t.Listing m.at m.brackets (t.trees (map view m.items.items)) = rw m.is (ap (λ x. t.Listing m.at m.brackets x) (views_items m.items)) in
    λ σ d. rw (same, c.of_brackets-node.ensures, c.place_of-in-Listing.ensures) (expand_listing m.at m.brackets (t.trees (map view m.items.items)) σ d)

pub returns-in-Junction-clause-same : goal.returns-in-Junction-clause-same
returns-in-Junction-clause-same c =
    let m = c.in-Junction in
    let same : view c.args.tree.now ≡ t.Junction m.at m.bullet (t.trees (map view m.items.items)) = rw m.is (ap (λ x. t.Junction m.at m.bullet x) (views_items m.items)) in
    λ σ d. rw (same, c.of_bullet-node.ensures, c.place_of-in-Junction.ensures) (expand_junction m.at m.bullet (t.trees (map view m.items.items)) σ d)

pub returns-in-Listing-clause-cost : goal.returns-in-Listing-clause-cost
returns-in-Listing-clause-cost c =
    let m = c.in-Listing in
    let same : view c.args.tree.now ≡ t.Listing m.at m.brackets (t.trees (map view m.items.items)) = rw m.is (ap (λ x. t.Listing m.at m.brackets x) (views_items m.items)) in
    λ σ. rw same (listing_cost m.items.items σ)

pub returns-in-Junction-clause-cost : goal.returns-in-Junction-clause-cost
returns-in-Junction-clause-cost c =
    let m = c.in-Junction in
    let same : view c.args.tree.now ≡ t.Junction m.at m.bullet (t.trees (map view m.items.items)) = rw m.is (ap (λ x. t.Junction m.at m.bullet x) (views_items m.items)) in
    λ σ. rw same (listing_cost m.items.items σ)
