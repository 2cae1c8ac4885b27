use Rattle.std.proofs.Common.{sym, ap, ◌∙◌}
use Rattle.tla_names.specs.Scope.{arity}
use Rattle.tla_names.proofs.Latest.{table_more, before_more}
use Rattle.tla_names.proofs.scope.Scope.push.Goals as goal

pub invariant_of-self-inside-in-Ok : goal.invariant_of-self-inside-in-Ok
invariant_of-self-inside-in-Ok c =
    let ks = c.self.inside.names.items in
    let took = c.arity-before.ensures ∙ ap (λ σ. arity σ c.args.name.now) (sym c.self.view_is) in
    let tells = table_more c.self.inside.latest.entries ks _ c.self.inside.indexed in
    let remember = before_more ks _ c.self.inside.kept_before took in
    (rw (c.in-Ok.ensures.entries, c.in_ok-push.ensures.items) tells, (rw c.in_ok-push.ensures.items remember, tt))
