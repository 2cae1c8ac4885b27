use Rattle.std.proofs.Common.{◌≡◌, ◌∙◌, ℕ, map, ap, sym, subst, true≢false, IfOk, IfErr, refl, arith}
use Rattle.tla_tree.specs.Tree as t
use Rattle.tla_tree.specs.View.{view, views_items, definition_view, definition_views_items}
use Rattle.tla_scopes.specs.Meanings.{Argument}
use Rattle.tla_scopes.specs.Expand.{expand}
use Rattle.tla_scopes.specs.Scopes.{scope_at, arguments_in}
use Rattle.tla_scopes.specs.Reductions.{reduction_gives, Explains}
use Rattle.tla_scopes.specs.Primes.{with_primes}
use Rattle.tla_scopes.proofs.Steps.{expand_call, shown_once}
use Rattle.tla_scopes.proofs.OwnForms.{means_none}
use Rattle.tla_scopes.specs.Listed.{listed}
use Rattle.tla_scopes.specs.Costs.{costs_at, costs_after}
use Rattle.tla_scopes.proofs.Cheaper.{call_cost, cost_cheaper}
use Rattle.tla_scopes.proofs.uses.reduce.Goals as goal

pub returns-in-Call-clause-same : goal.returns-in-Call-clause-same
returns-in-Call-clause-same c =
    let σ = scope_at (listed c.args.entries.now) c.args.scope in
    let m = c.in-Call in
    let same : view c.args.tree.now ≡ t.Call m.name (t.trees (map view c.as_slice-arguments.result.now)) = rw (m.is, c.as_slice-arguments.ensures.value) (ap (λ x. t.Call m.name x) (views_items m.arguments)) in
    let e : expand (view c.args.tree.now) σ ≡ (λ (d : ℕ). σ c.as_bytes-in-Call.result.now c.place_of-at-in-Call.result (arguments_in c.as_slice-arguments.result.now σ) d) =
    rw (same, c.as_bytes-in-Call.ensures, c.place_of-at-in-Call.ensures) (expand_call m.name c.as_slice-arguments.result.now σ) in
    subst (λ (f : Argument). IfOk c.use_of-in-Call.result (λ s. (d : ℕ) → with_primes c.args.primes (f d) ≡ reduction_gives (listed c.use_of-in-Call.new.entries) s d)) (sym e) c.use_of-in-Call.ensures.same

pub returns-in-Call-clause-err : goal.returns-in-Call-clause-err
returns-in-Call-clause-err c =
    let σ = scope_at (listed c.args.entries.now) c.args.scope in
    let m = c.in-Call in
    let same : view c.args.tree.now ≡ t.Call m.name (t.trees (map view c.as_slice-arguments.result.now)) = rw (m.is, c.as_slice-arguments.ensures.value) (ap (λ x. t.Call m.name x) (views_items m.arguments)) in
    let e : expand (view c.args.tree.now) σ ≡ (λ (d : ℕ). σ c.as_bytes-in-Call.result.now c.place_of-at-in-Call.result (arguments_in c.as_slice-arguments.result.now σ) d) =
    rw (same, c.as_bytes-in-Call.ensures, c.place_of-at-in-Call.ensures) (expand_call m.name c.as_slice-arguments.result.now σ) in
    subst (λ (f : Argument). IfErr c.use_of-in-Call.result (λ s. Explains s f)) (sym e) c.use_of-in-Call.ensures.err

pub returns-in-Prime-clause-same : goal.returns-in-Prime-clause-same
returns-in-Prime-clause-same c =
    λ d. rw (c.one_more.ensures, c.deref-in-Prime.ensures, c.in-Prime.is) (shown_once c.args.primes (expand (view c.in-Prime.inner.value) (scope_at (listed c.args.entries.now) c.args.scope) d))

pub returns-in_ok-inside-in-Let-clause-same : goal.returns-in_ok-inside-in-Let-clause-same
returns-in_ok-inside-in-Let-clause-same c =
    let m = c.in-Let in
    let same : view c.args.tree.now ≡ t.Let m.field-0 (t.definitions (map definition_view c.as_slice-in-Let.result.now)) (view c.deref-in-Let.result.now) =
    rw (m.is, c.as_slice-in-Let.ensures.value, c.deref-in-Let.ensures) (ap (λ x. t.Let m.field-0 x (view m.inner.value)) (definition_views_items m.definitions)) in
    λ d. rw (same, ← c.in_ok-inside-in-Let.ensures.same) refl

pub unreachable-requires : goal.unreachable-requires
unreachable-requires c =
    let d = c.in_default in
    let none = means_none c.args.tree.now (record { no_name = d.not-Name; no_call = d.not-Call; no_at = d.not-At; no_paren = d.not-Paren; no_prime = d.not-Prime; no_let = d.not-Let }) in
    true≢false (sym c.requires.another ∙ none)

pub returns-in-Call-clause-shorter : goal.returns-in-Call-clause-shorter
returns-in-Call-clause-shorter c =
    let σ = costs_at (listed c.args.entries.now) c.args.scope in
    let m = c.in-Call in
    let same : view c.args.tree.now ≡ t.Call m.name (t.trees (map view c.as_slice-arguments.result.now)) = rw (m.is, c.as_slice-arguments.ensures.value) (ap (λ x. t.Call m.name x) (views_items m.arguments)) in
    rw (same, call_cost m.name c.as_slice-arguments.result.now σ) (rw c.as_bytes-in-Call.ensures at c.use_of-in-Call.ensures.shorter)

pub returns-in_ok-inside-in-Let-clause-shorter : goal.returns-in_ok-inside-in-Let-clause-shorter
returns-in_ok-inside-in-Let-clause-shorter c =
    let m = c.in-Let in
    let σ = costs_at (listed c.args.entries.now) c.args.scope in
    let ds = t.definitions (map definition_view c.as_slice-in-Let.result.now) in
    let same : view c.args.tree.now ≡ t.Let m.field-0 ds (view c.deref-in-Let.result.now) =
    rw (m.is, c.as_slice-in-Let.ensures.value, c.deref-in-Let.ensures) (ap (λ x. t.Let m.field-0 x (view m.inner.value)) (definition_views_items m.definitions)) in
    let inner = cost_cheaper (view c.deref-in-Let.result.now) (costs_at (listed c.enter_definitions.new.entries) c.in_ok-inside-in-Let.inside) (costs_after ds σ) c.in_ok-inside-in-Let.ensures.cheaper in
    rw same (omega (arith, inner))
