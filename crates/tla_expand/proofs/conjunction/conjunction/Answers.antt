use Rattle.std.proofs.Common.{◌≡◌, ◌∙◌, ap, map}
use Rattle.std.proofs.lemmas.Result.{err_from_is_err_and}
use Rattle.tla_core.specs.Expr.{conjunction}
use Rattle.tla_core.specs.ExprOf.{expr_of}
use Rattle.tla_core.specs.declared.fault.Place.{Place}
use Rattle.tla_scopes.specs.Lists.{exprs}
use Rattle.tla_scopes.specs.Places.{place_of}
use Rattle.tla_scopes.specs.Scopes.{scope_at}
use Rattle.tla_expand.proofs.Apart.{conjunction_fails, conjunction_gives, limits_given, none_told, none_within}
use Rattle.tla_scopes.specs.Listed.{listed}
use Rattle.tla_expand.proofs.conjunction.conjunction.Goals as goal

pub returns-in_err-many-clause-none : goal.returns-in_err-many-clause-none
returns-in_err-many-clause-none c =
    let e = err_from_is_err_and c.from_residual.result c.from_residual.ensures.1 in
    rw (e.1, e.2) (none_within c.in_err-many.field-0.0 _ (conjunction_fails c.args.trees.now (scope_at (listed c.args.entries.now) c.args.scope) c.args.primes (place_of c.args.place) c.in_err-many.field-0.0 c.in_err-many.ensures.same))

pub returns-in_err-many-clause-gone : goal.returns-in_err-many-clause-gone
returns-in_err-many-clause-gone c =
    let e = err_from_is_err_and c.from_residual.result c.from_residual.ensures.1 in
    rw (e.1, e.2) (none_told c.in_err-many.field-0.0 _ (conjunction_fails c.args.trees.now (scope_at (listed c.args.entries.now) c.args.scope) c.args.primes (place_of c.args.place) c.in_err-many.field-0.0 c.in_err-many.ensures.same))

pub returns-clause-found : goal.returns-clause-found
returns-clause-found c =
    let xs = map expr_of c.in_ok-many.many.parts.items in
    let same : expr_of c.conjunction.result ≡ conjunction (place_of c.args.place) (exprs xs) = c.conjunction.ensures ∙ ap (λ (p : Place). conjunction p (exprs xs)) c.place_of.ensures in
    (conjunction_gives c.args.trees.now (scope_at (listed c.args.entries.now) c.args.scope) c.args.primes (place_of c.args.place) xs (expr_of c.conjunction.result) c.in_ok-many.many.nodes_left c.in_ok-many.ensures.same same).0

pub returns-clause-limits : goal.returns-clause-limits
returns-clause-limits c =
    let xs = map expr_of c.in_ok-many.many.parts.items in
    let same : expr_of c.conjunction.result ≡ conjunction (place_of c.args.place) (exprs xs) = c.conjunction.ensures ∙ ap (λ (p : Place). conjunction p (exprs xs)) c.place_of.ensures in
    limits_given _ (expr_of c.conjunction.result) c.in_ok-many.many.nodes_left (conjunction_gives c.args.trees.now (scope_at (listed c.args.entries.now) c.args.scope) c.args.primes (place_of c.args.place) xs (expr_of c.conjunction.result) c.in_ok-many.many.nodes_left c.in_ok-many.ensures.same same)
