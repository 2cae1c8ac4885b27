use Rattle.std.proofs.Common.{rules}
use Rattle.tla_scopes.specs.Private.Parameters.{IsAbsent}
use Rattle.tla_scopes.proofs.GivenWalk.{sought_here, sought_parameters, found_outside, found_parameter}
use Rattle.tla_scopes.proofs.projections.summary_of.Goals as goal

pub loop-at-init : goal.loop-at-init
loop-at-init c = record { same = sought_here c.args.name.now c.args.known.now }

pub loop-at-preserved-in-Parameters : goal.loop-at-preserved-in-Parameters
loop-at-preserved-in-Parameters c =
    let m = c.in-Parameters in
    let absent : IsAbsent c.args.name.now m.parameters.now = search rules in
    record { same = sought_parameters c.args.name.now c.args.known.now c.loop-at.at.now m.parameters m.rest m.is absent c.loop-at.invariant.same }

pub returns-in-Outside : goal.returns-in-Outside
returns-in-Outside c = found_outside c.args.name.now c.args.known.now c.loop-at.at.now c.in-Outside.is c.loop-at.invariant.same

pub returns-in-Some : goal.returns-in-Some
returns-in-Some c =
    let m = c.in-Parameters in
    found_parameter c.args.name.now c.args.known.now c.loop-at.at.now m.parameters m.rest c.in-Some.index c.parameter_summary.result m.is c.in-Some.ensures.some c.loop-at.invariant.same c.parameter_summary.ensures
