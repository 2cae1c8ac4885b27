use Rattle.std.proofs.Common.{◌≡◌, ◌+◌, length, arith}
use Rattle.std.proofs.lemmas.Result.{IfOk-weaker, on_ok_weaker}
use Rattle.tla_scopes.specs.Meanings.{Scope, standard}
use Rattle.tla_scopes.specs.Bound.{with_elements, with_items}
use Rattle.tla_expand.specs.Private.Binders.{binds_in}
use Rattle.tla_scopes.specs.Scopes.{scope_at}
use Rattle.tla_scopes.proofs.Binds.{extends_trans}
use Rattle.tla_scopes.specs.Listed.{listed}
use Rattle.tla_expand.proofs.expand.binding.name_all.Goals as goal

pub returns-clause-extends : goal.returns-clause-extends
returns-clause-extends c =
    on_ok_weaker c.name_items.result (λ h. extends_trans (listed c.args.entries.now) (listed c.name_elements.new.entries) (listed c.name_items.new.entries) c.in_ok-scope.ensures.extends h) c.name_items.ensures.extends

pub returns-clause-same : goal.returns-clause-same
returns-clause-same c =
    let d = c.args.bound in
    let last = d + length c.args.binds.now in
    let old = scope_at (listed c.args.entries.now) c.args.scope in
    let mid = scope_at (listed c.name_elements.new.entries) c.in_ok-scope.scope in
    let new = listed c.name_items.new.entries in
    IfOk-weaker c.name_items.result (λ s. (σ : Scope) → with_items (binds_in c.args.binds.now σ) last mid ≡ scope_at new s.scope) (λ s. (σ : Scope) → with_items (binds_in c.args.binds.now σ) last (with_elements (binds_in c.args.binds.now σ) d old) ≡ scope_at new s.scope)
    (λ s h σ. rw (c.in_ok-scope.ensures.same σ) (h σ)) c.name_items.ensures.same
