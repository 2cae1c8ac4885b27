use Rattle.std.proofs.Common.{◌≡◌, ◌∙◌, [], length, refl, arith}
use Rattle.tla_scopes.specs.Scopes.{scope_at}
use Rattle.tla_scopes.proofs.GivenWalk.{own_means}
use Rattle.tla_scopes.specs.Listed.{listed}
use Rattle.tla_scopes.proofs.projections.projection_of.Goals as goal

pub returns-else-reached-gt0 : goal.returns-else-reached-gt0
returns-else-reached-gt0 c =
    let m = c.in-Some in
    let zero : m.reached.layer ≡ 0 = omega arith in
    m.ensures (λ k. []) (scope_at (listed c.args.entries.now) c.args.scope) refl ∙ own_means (length c.args.parameters.now) 0 m.reached (λ k. []) zero
