use Rattle.std.proofs.Common.{None, refl}
use Rattle.tla_scopes.specs.declared.arena.Projection.{Projection}
use Rattle.tla_scopes.specs.declared.primes.Primes.TheVariants.{Never}
use Rattle.tla_scopes.specs.Private.LocalScopes.{depth}
use Rattle.tla_scopes.proofs.GivenWalk.{parameter_reached}
use Rattle.tla_scopes.proofs.projections.parameter_summary.Goals as goal

pub returns-in-Some : goal.returns-in-Some
returns-in-Some c = λ f.
    let given : Projection = record { index = c.args.index; primes = Never; primed = None } in
    parameter_reached c.args.index (depth c.args.round.now) (record { layer = c.in-Some.layer; given = given }) f c.in-Some.ensures refl refl
