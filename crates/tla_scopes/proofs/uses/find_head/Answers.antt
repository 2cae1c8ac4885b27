use Rattle.std.proofs.Common.{◌∙◌, ap, sym, arith}
use Rattle.std.proofs.lemmas.Result.{err_from_is_err_and}
use Rattle.tla_scopes.specs.Expand.{expand}
use Rattle.tla_scopes.specs.Meanings.{Scope}
use Rattle.tla_scopes.specs.Scopes.{scope_at}
use Rattle.tla_scopes.specs.Primes.{with_primes}
use Rattle.tla_tree.specs.View.{view}
use Rattle.tla_scopes.proofs.Binds.{extends_trans, extends_length}
use Rattle.tla_scopes.proofs.Steps.{explains_by}
use Rattle.tla_scopes.specs.Listed.{listed}
use Rattle.tla_scopes.specs.Costs.{Costs, cost}
use Rattle.tla_scopes.proofs.uses.find_head.Goals as goal

pub returns-in_err-head-clause-err : goal.returns-in_err-head-clause-err
returns-in_err-head-clause-err c =
    let e = err_from_is_err_and c.from_residual.result c.from_residual.ensures.1 in
    rw (e.1, e.2) (explains_by c.in_err-head.field-0.0 c.loop-head.with
    (λ d. expand (view c.loop-head.tree.now) (scope_at (listed c.loop-head.entries) c.loop-head.at) d)
    (λ d. with_primes c.args.primes (expand (view c.args.start.now) (scope_at (listed c.args.entries.now) c.args.scope) d))
    c.loop-head.invariant.same c.in_err-head.ensures.err)

pub loop-head-preserved : goal.loop-head-preserved
loop-head-preserved c =
    let e = c.in_ok-head.ensures in
    let same = e.same in
    let extends = extends_trans (listed c.args.entries.now) (listed c.loop-head.entries) (listed c.next_reduction.new.entries) c.loop-head.invariant.extends e.extends in
    let g = c.drop_entries.ensures in
    record {
      linked = g.linked;
      extends = g.extends (listed c.args.entries.now) (omega (arith, c.len-kept.ensures.same)) extends;
      within = g.within;
      same = λ d. c.loop-head.invariant.same d ∙ (rw c.in-Goes.is at (same d)) ∙ ap (λ (σ : Scope). with_primes c.in-Goes.more (expand (view c.in-Goes.next.now) σ d)) (sym g.same);
    }

pub drop_entries-requires-clause-kept : goal.drop_entries-requires-clause-kept
drop_entries-requires-clause-kept c =
    let e = c.in_ok-head.ensures in
    let n = extends_length (listed c.args.entries.now) (listed c.next_reduction.new.entries) (extends_trans (listed c.args.entries.now) (listed c.loop-head.entries) (listed c.next_reduction.new.entries) c.loop-head.invariant.extends e.extends) in
    omega (arith, c.len-kept.ensures.same, n)

pub drop_entries-requires-clause-scope : goal.drop_entries-requires-clause-scope
drop_entries-requires-clause-scope c = let e = c.in_ok-head.ensures in rw c.in-Goes.is at e.within

pub last_prime-primed-requires-clause-scope : goal.last_prime-primed-requires-clause-scope
last_prime-primed-requires-clause-scope c =
    let x = extends_length (listed c.loop-head.entries) (listed c.next_reduction.new.entries) c.in_ok-head.ensures.extends in
    omega (arith, x, c.loop-head.invariant.within)

pub loop-head-smaller : goal.loop-head-smaller
loop-head-smaller c =
    let e = rw c.in-Goes.is at c.in_ok-head.ensures.shorter in
    let same = ap (λ (σ : Costs). cost (view c.in-Goes.next.now) σ) c.drop_entries.ensures.costs in
    omega (arith, e, same)
