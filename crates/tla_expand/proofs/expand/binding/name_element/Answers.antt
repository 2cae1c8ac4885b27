use Rattle.std.proofs.lemmas.Result.{on_ok_weaker}
use Rattle.tla_scopes.proofs.Binds.{extends_more, extends_self}
use Rattle.tla_scopes.specs.Listed.{listed}
use Rattle.tla_expand.proofs.expand.binding.name_element.Goals as goal

pub returns-in-Name-clause-extends : goal.returns-in-Name-clause-extends
returns-in-Name-clause-extends c =
    let old = listed c.args.entries.now in
    on_ok_weaker c.enter.result (λ h. extends_more old old (listed c.enter.new.entries) _ (extends_self old) h) c.enter.ensures.added
