use Rattle.tla_scopes.specs.Scopes.{scope_at}
use Rattle.tla_scopes.proofs.Shorter.{some_map}
use Rattle.tla_scopes.proofs.GivenBack.{use_never}
use Rattle.tla_scopes.specs.Listed.{listed}
use Rattle.tla_scopes.proofs.shortened.returned_argument.Goals as goal

pub returns-in-Never-clause-same : goal.returns-in-Never-clause-same
returns-in-Never-clause-same c =
    let e = c.in_ok-entry in
    let m = c.in-Gives in
    some_map c.given_argument.result _ _ (λ x h. use_never (scope_at (listed c.args.entries.now)) (scope_at (listed c.args.entries.now) c.args.scope c.args.name.now) e.entry m.count m.given c.args.arguments.now x.now e.ensures.found m.is c.in-Never.is h) c.given_argument.ensures.some
