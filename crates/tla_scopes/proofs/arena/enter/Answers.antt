use Rattle.std.proofs.Common.{◌≡◌, ◌∙◌, ap, length-append, length, ◌+◌, ◌∷◌, []}
use Rattle.tla_scopes.specs.Listed.{listed}
use Rattle.tla_scopes.proofs.Links.{are_linked_append, below_rest, scope_new}
use Rattle.tla_scopes.proofs.EntryCosts.{costs_new}
use Rattle.tla_scopes.proofs.arena.enter.Goals as goal

pub push-requires : goal.push-requires
push-requires c = below_rest (length (listed c.args.entries.now)) c.args.entry.what c.args.entry.rest c.requires.below

pub returns-clause-linked : goal.returns-clause-linked
returns-clause-linked c =
    rw c.in_ok-push.ensures.ok (are_linked_append (listed c.args.entries.now) c.args.entry c.requires.linked c.requires.below)

pub returns-clause-scope : goal.returns-clause-scope
returns-clause-scope c =
    let p = c.in_ok-push.ensures.ok in
    let r : c.len.result ≡ length (listed c.args.entries.now) + 1 = c.len.ensures.same ∙ ap length p ∙ length-append (listed c.args.entries.now) (c.args.entry ∷ []) in
    rw (p, r) (scope_new (listed c.args.entries.now) c.args.entry)

pub returns-clause-costs : goal.returns-clause-costs
returns-clause-costs c =
    let p = c.in_ok-push.ensures.ok in
    let r : c.len.result ≡ length (listed c.args.entries.now) + 1 = c.len.ensures.same ∙ ap length p ∙ length-append (listed c.args.entries.now) (c.args.entry ∷ []) in
    rw (p, r) (costs_new (listed c.args.entries.now) c.args.entry)
