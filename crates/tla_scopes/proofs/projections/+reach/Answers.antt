use Rattle.std.proofs.Common.{rules, ◌≡◌, ◌+◌, ℕ, map, drop, ap, refl, sym, arith, length, IfSome}
use Rattle.tla_tree.specs.Tree as tree
use Rattle.tla_tree.specs.View.{view, definition_view, definition_views_items}
use Rattle.tla_scopes.specs.declared.projections.LocalScope.TheViews as views
use Rattle.tla_scopes.specs.declared.projections.BodyPart.{BodyPart}
use Rattle.tla_scopes.specs.declared.primes.Primes.TheVariants.{Never}
use Rattle.tla_scopes.specs.Primes.{with_primes}
use Rattle.tla_scopes.specs.Meanings.{Scope}
use Rattle.tla_scopes.specs.Expand.{expand, definitions_in}
use Rattle.tla_scopes.specs.Scopes.{scope_at}
use Rattle.tla_scopes.specs.Private.LocalScopes.{Layers, Holds, IsSummary, IsOperator, GivesBack, reached_in}
use Rattle.tla_scopes.proofs.Shorter.{some_map}
use Rattle.tla_scopes.proofs.GivenWalk.{comes_back, back_more, back_none, back_let, operator_summarized, other_summarized, operator_back}
use Rattle.tla_scopes.specs.Listed.{listed}
use Rattle.tla_scopes.proofs.projections.+reach.Goals as goal

pub reach_in_let-returns-then-from-definitions : goal.reach_in_let-returns-then-from-definitions
reach_in_let-returns-then-from-definitions t c =
    let ρ = scope_at (listed c.args.entries.now) c.args.scope in
    let a = c.args.part in
    let x = c.name_of.result in
    let w = c.definition_summary-summary.result in
    let def = c.index-definitions-from.result in
    let i : IsSummary ρ a.known.now (definition_view def) w = c.definition_summary-summary.ensures in
    let b : IfSome c.reach_in_let.result (λ r. (f : Layers) (τ : Scope) → Holds ρ (views.Named x w a.known) f τ → (d : ℕ) → with_primes a.primes (expand (view a.tree.now) (definitions_in (tree.definitions (map definition_view (drop (c.args.from + 1) c.args.definitions.now))) τ) d) ≡ reached_in r f d) = c.reach_in_let.ensures in
    some_map c.reach_in_let.result _ _ (λ r h. back_more ρ a def c.args.definitions.now c.args.from x w r (omega arith) c.index-definitions-from.is c.name_of.ensures i h) b

pub reach_in_let-returns-in-Argument : goal.reach_in_let-returns-in-Argument
reach_in_let-returns-in-Argument t c = back_none (scope_at (listed c.args.entries.now) c.args.scope) c.args.part c.args.definitions.now c.args.from c.in-Argument.reached (omega arith) c.in-Argument.ensures

pub reach_in_let-returns-in-Let : goal.reach_in_let-returns-in-Let
reach_in_let-returns-in-Let t c =
    let ρ = scope_at (listed c.args.entries.now) c.args.scope in
    let a = c.args.part in
    let e = c.in-Continue.end in
    let m = c.in-Let in
    let b : BodyPart = record { known = e.known; tree = c.deref.result; primes = e.primes; primed = e.primed } in
    let v : view e.tree.now ≡ tree.Let m.field-0 (tree.definitions (map definition_view c.as_slice.result.now)) (view c.deref.result.now) =
    rw (m.is, c.as_slice.ensures.value, c.deref.ensures) (ap (λ x. tree.Let m.field-0 x (view m.tree.value)) (definition_views_items m.inner_definitions)) in
    let f : IfSome c.reach_in_let-in-Let.result (λ r. GivesBack ρ b c.as_slice.result.now r) = c.reach_in_let-in-Let.ensures in
    some_map c.reach_in_let-in-Let.result _ _ (λ r h. back_none ρ a c.args.definitions.now c.args.from r (omega arith) (comes_back ρ a e r c.in-Continue.ensures (back_let ρ e b m.field-0 c.as_slice.result.now r v refl refl h))) f

pub definition_summary-returns-in_default : goal.definition_summary-returns-in_default
definition_summary-returns-in_default t c = other_summarized (scope_at (listed c.args.entries.now) c.args.scope) c.args.known.now (definition_view c.args.definition.now)

pub definition_summary-returns-in-Some : goal.definition_summary-returns-in-Some
definition_summary-returns-in-Some t c =
    let ρ = scope_at (listed c.args.entries.now) c.args.scope in
    let m = c.in-Operator in
    let n : c.len.result ≡ length m.parameters.items = search rules in
    let i : IsOperator ρ c.args.known.now m.parameters.items (view m.body) c.in-Some.reached = rw (sym c.as_slice.ensures.value) c.in-Some.ensures in
    operator_summarized ρ c.args.known.now (definition_view c.args.definition.now) m.field-0 m.parameters.items (view m.body) c.len.result c.in-Some.reached c.operator_summary.result (rw m.is refl) n i c.operator_summary.ensures.means c.operator_summary.ensures.round

pub definition_summary-returns-in-None : goal.definition_summary-returns-in-None
definition_summary-returns-in-None t c = other_summarized (scope_at (listed c.args.entries.now) c.args.scope) c.args.known.now (definition_view c.args.definition.now)

pub reach_in_operator-returns : goal.reach_in_operator-returns
reach_in_operator-returns t c =
    let ρ = scope_at (listed c.args.entries.now) c.args.scope in
    let body = c.args.body.now in
    let b : IfSome c.reach_in_let.result (λ r. (f : Layers) (τ : Scope) → Holds ρ (views.Parameters c.args.parameters c.args.known) f τ → (d : ℕ) → with_primes Never (expand (view body) τ d) ≡ reached_in r f d) = c.reach_in_let.ensures in
    some_map c.reach_in_let.result _ _ (λ r h. operator_back ρ c.args.known c.args.parameters body r h) b
