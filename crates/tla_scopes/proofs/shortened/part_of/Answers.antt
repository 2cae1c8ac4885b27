use Rattle.std.proofs.Common.{rules, ◌≡◌, ap, map, sym}
use Rattle.tla_tree.specs.Tree as t
use Rattle.tla_tree.specs.View.{view, views_items}
use Rattle.tla_scopes.specs.Private.Parameters.{IsAbsent}
use Rattle.tla_scopes.specs.Scopes.{scope_at}
use Rattle.tla_scopes.proofs.Shorter.{call_same, some_map}
use Rattle.tla_scopes.specs.Listed.{listed}
use Rattle.tla_scopes.proofs.Cheaper.{call_at_most}
use Rattle.tla_scopes.proofs.shortened.part_of.Goals as goal

pub returns-else-is_some-clause-same : goal.returns-else-is_some-clause-same
returns-else-is_some-clause-same c =
    let m = c.in-Call in
    let same : view c.args.body.now ≡ t.Call m.name (t.trees (map view c.as_slice.result.now)) = rw (m.is, c.as_slice.ensures.value) (ap (λ x. t.Call m.name x) (views_items m.arguments)) in
    let known : IsAbsent c.as_bytes-word.result.now c.args.parameters.now = search rules in
    some_map c.returned_argument.result _ _ (λ e h. λ args σ d k.
    call_same c.args.parameters.now args (scope_at (listed c.args.entries.now) c.args.scope) σ m.name c.as_slice.result.now c.args.body.now e.now d same (rw (sym c.as_bytes-word.ensures) known) k (rw (sym c.as_bytes-word.ensures) h)) c.returned_argument.ensures.same

pub returns-else-is_some-clause-costs : goal.returns-else-is_some-clause-costs
returns-else-is_some-clause-costs c =
    let m = c.in-Call in
    let same : view c.args.body.now ≡ t.Call m.name (t.trees (map view c.as_slice.result.now)) = rw (m.is, c.as_slice.ensures.value) (ap (λ x. t.Call m.name x) (views_items m.arguments)) in
    some_map c.returned_argument.result _ _ (λ e h σ. call_at_most c.args.body.now m.name c.as_slice.result.now e.now σ same (h σ)) c.returned_argument.ensures.costs
