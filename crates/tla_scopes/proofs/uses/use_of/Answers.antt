use Rattle.std.proofs.Common.{◌+◌, ap, arith}
use Rattle.tla_scopes.specs.Costs.{Cost, costs_at, costs_in, total}
use Rattle.tla_scopes.specs.Scopes.{scope_at}
use Rattle.tla_scopes.proofs.Binds.{mismatch}
use Rattle.tla_scopes.proofs.GivenBack.{use_gives, use_gives_none}
use Rattle.tla_scopes.proofs.Steps.{if_made, if_fails}
use Rattle.tla_scopes.specs.Listed.{listed}
use Rattle.tla_scopes.proofs.uses.use_of.Goals as goal

pub returns-then-parameters-arguments-clause-err :
    goal.returns-then-parameters-arguments-clause-err
returns-then-parameters-arguments-clause-err c =
    let f = c.in-Some.ensures.found in
    λ d. mismatch (scope_at (listed c.args.entries.now)) c.args.arguments.now (scope_at (listed c.args.entries.now) c.args.scope) c.args.place d (scope_at (listed c.args.entries.now) c.args.scope c.args.name.now) c.in-Some.entry c.in-Definition.parameters c.in-Definition.body c.in-Definition.home f c.in-Definition.is c.if-parameters-arguments.true

pub returns-in-Some-given_argument-clause-same : goal.returns-in-Some-given_argument-clause-same
returns-in-Some-given_argument-clause-same c =
    let at = scope_at (listed c.args.entries.now) in
    let f = c.in-Some.ensures.found in
    let m = c.in-Gives in
    rw c.with_more.ensures (use_gives c.args.primes at (at c.args.scope c.args.name.now) c.in-Some.entry m.count m.given c.args.arguments.now c.in-Some-given_argument.argument.now (at c.args.scope) c.args.place f m.is c.in-Some-given_argument.ensures.some)

pub returns-in-None-clause-err : goal.returns-in-None-clause-err
returns-in-None-clause-err c =
    let at = scope_at (listed c.args.entries.now) in
    let f = c.in-Some.ensures.found in
    let m = c.in-Gives in
    use_gives_none at (at c.args.scope c.args.name.now) c.in-Some.entry m.count m.given c.args.arguments.now (at c.args.scope) c.args.place f m.is c.in-None.ensures.none

pub returns-clause-within : goal.returns-clause-within
returns-clause-within c =
    if_made c.use_without_arguments.result c.use_without_arguments.ensures.within (λ s h. h (listed c.args.entries.now) c.in-Some.entry.rest c.in-Some.ensures.below c.requires.scope)

pub returns-clause-same : goal.returns-clause-same
returns-clause-same c =
    let es = listed c.args.entries.now in
    if_made c.use_without_arguments.result c.use_without_arguments.ensures.same (λ s h d. rw c.in-Some.ensures.found (h es d))

pub returns-clause-err : goal.returns-clause-err
returns-clause-err c =
    let at = scope_at (listed c.args.entries.now) in
    if_fails c.use_without_arguments.result c.use_without_arguments.ensures.err (λ e h. rw c.in-Some.ensures.found (h at (at c.args.scope)))

pub returns-clause-shorter : goal.returns-clause-shorter
returns-clause-shorter c =
    let es = listed c.args.entries.now in
    let ns = costs_in c.args.arguments.now (costs_at es c.args.scope) in
    let e = ap (λ (k : Cost). k ns) c.in-Some.ensures.costs in
    if_made c.use_without_arguments.result c.use_without_arguments.ensures.shorter (λ s h. h es ns (total ns + costs_at es c.args.scope c.args.name.now ns) (omega (arith, e)))

pub returns-in-Some-given_argument-clause-shorter : goal.returns-in-Some-given_argument-clause-shorter
returns-in-Some-given_argument-clause-shorter c = omega (arith, c.in-Some-given_argument.ensures.costs (costs_at (listed c.args.entries.now) c.args.scope))
