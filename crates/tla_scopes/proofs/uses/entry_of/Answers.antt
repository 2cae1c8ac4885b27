use Rattle.std.proofs.Common.{◌≡◌, ◌+◌, map, ap, refl, arith}
use Rattle.tla_tree.specs.Tree as t
use Rattle.tla_tree.specs.View.{view, group_view, definition_view, bound_views_items}
use Rattle.tla_scopes.specs.Costs.{total, cost, cost_by, with_costs, costs_at}
use Rattle.tla_scopes.specs.Listed.{listed}
use Rattle.tla_scopes.proofs.Cheaper.{with_cheaper}
use Rattle.tla_scopes.proofs.uses.entry_of.Goals as goal

pub returns-in-Operator-clause-scope : goal.returns-in-Operator-clause-scope
returns-in-Operator-clause-scope c =
    let m = c.in-Operator in
    rw (m.is, c.as_bytes.ensures, c.operator_of.ensures.same, c.as_slice-parameters.ensures.value) refl

pub returns-in-Function-clause-scope : goal.returns-in-Function-clause-scope
returns-in-Function-clause-scope c =
    let m = c.in-Function in
    let same : definition_view c.args.definition.now ≡ t.DefinesFunction m.name (t.binders (map group_view m.groups.items)) (view m.body) =
    rw m.is (ap (λ x. t.DefinesFunction m.name x (view m.body)) (bound_views_items m.groups)) in
    rw (same, c.as_bytes-in-Function.ensures, c.place_of.ensures) refl

pub returns-in-Operator-clause-cheaper : goal.returns-in-Operator-clause-cheaper
returns-in-Operator-clause-cheaper c = λ τ h.
    let m = c.in-Operator in
    let at = costs_at (listed c.args.entries.now) in
    rw (m.is, c.as_bytes.ensures)
    (with_cheaper m.name.word (cost_by at c.operator_of.result) (λ ns. total ns + cost (view m.body) (with_costs m.parameters.items ns τ)) (at c.args.scope) τ
    (λ ns ms a. rw c.as_slice-parameters.ensures.value at (c.operator_of.ensures.cheaper τ ns ms h a)) h)

pub returns-in-Function-clause-cheaper : goal.returns-in-Function-clause-cheaper
returns-in-Function-clause-cheaper c = λ τ h.
    let m = c.in-Function in
    let at = costs_at (listed c.args.entries.now) in
    let same : definition_view c.args.definition.now ≡ t.DefinesFunction m.name (t.binders (map group_view m.groups.items)) (view m.body) =
    rw m.is (ap (λ x. t.DefinesFunction m.name x (view m.body)) (bound_views_items m.groups)) in
    rw (same, c.as_bytes-in-Function.ensures) (with_cheaper m.name.word (λ ns. 0) (λ ns. 0) (at c.args.scope) τ (λ ns ms a. omega arith) h)
