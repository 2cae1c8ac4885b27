use Rattle.std.proofs.Common.{◌≡◌, subst, IfOk}
use Rattle.tla_tree.specs.View.{definition_view}
use Rattle.tla_expand.specs.Names.{scope_of}
use Rattle.tla_scopes.specs.Scopes.{entry_scope, scope_at}
use Rattle.tla_scopes.specs.Expand.{definition_in}
use Rattle.tla_scopes.specs.Listed.{listed}
use Rattle.tla_expand.proofs.scopes.Scopes.with_definition.Goals as goal

pub returns-clause-ok : goal.returns-clause-ok
returns-clause-ok c =
    let items = listed c.args.self.entries in
    let entered : entry_scope (scope_at items) c.entry_of-entry.result ≡ definition_in (definition_view c.args.definition.now) (scope_at items c.args.self.current) = c.entry_of-entry.ensures.scope in
    subst (λ σ. IfOk c.with_entry.result (λ s. scope_of s ≡ σ)) entered c.with_entry.ensures.ok
