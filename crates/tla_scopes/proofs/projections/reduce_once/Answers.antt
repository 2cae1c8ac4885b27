use Rattle.std.proofs.Common.{ap, refl, Some}
use Rattle.tla_tree.specs.Tree as t
use Rattle.tla_tree.specs.View.{view, views_items}
use Rattle.tla_scopes.specs.Expand.{expand}
use Rattle.tla_scopes.specs.Scopes.{scope_at}
use Rattle.tla_scopes.proofs.Steps.{shown_once}
use Rattle.tla_scopes.proofs.GivenWalk.{comes_here, call_used}
use Rattle.tla_scopes.specs.Listed.{listed}
use Rattle.tla_scopes.proofs.projections.reduce_once.Goals as goal

pub returns-in-Name : goal.returns-in-Name
returns-in-Name c = c.reduce_use.ensures (λ τ d. rw c.in-Name.is refl)

pub returns-in-Call : goal.returns-in-Call
returns-in-Call c =
    let m = c.in-Call in
    c.reduce_use-in-Call.ensures (call_used (view c.args.part.tree.now) m.name c.as_slice.result.now (rw (m.is, c.as_slice.ensures.value) (ap (λ x. t.Call m.name x) (views_items m.arguments))))

pub returns-in-Paren : goal.returns-in-Paren
returns-in-Paren c =
    let a = c.args.part in
    comes_here (scope_at (listed c.args.entries.now) c.args.scope) a (record { known = a.known; tree = c.deref.result; primes = a.primes; primed = a.primed }) refl (λ f τ d h. rw (c.in-Paren.is, c.deref.ensures) refl)

pub returns-in-Prime : goal.returns-in-Prime
returns-in-Prime c =
    let a = c.args.part in
    comes_here (scope_at (listed c.args.entries.now) c.args.scope) a (record { known = a.known; tree = c.deref-in-Prime.result; primes = c.one_more.result; primed = Some c.place_of.result }) refl
    (λ f τ d h. rw (c.one_more.ensures, c.deref-in-Prime.ensures, c.in-Prime.is) (shown_once a.primes (expand (view c.in-Prime.inner.value) τ d)))
