use Rattle.std.proofs.Common.{◌≡◌, ◌∙◌, ap, map, length, arith, refl}
use Rattle.std.proofs.lemmas.List.{drop_all}
use Rattle.tla_tree.specs.Tree.{definitions}
use Rattle.tla_tree.specs.View.{definition_view}
use Rattle.tla_scopes.specs.Expand.{definitions_in, definition_in}
use Rattle.tla_scopes.specs.Scopes.{entry_scope, scope_at}
use Rattle.tla_scopes.proofs.Links.{below_more}
use Rattle.tla_scopes.proofs.Binds.{extends_more, extends_self}
use Rattle.tla_scopes.proofs.Steps.{define_more}
use Rattle.tla_scopes.specs.Listed.{listed}
use Rattle.tla_scopes.specs.Costs.{costs_at, costs_after, entry_costs}
use Rattle.tla_scopes.proofs.Cheaper.{more_cheaper, self_cheaper, all_cheaper}
use Rattle.tla_scopes.proofs.uses.enter_definitions.Goals as goal

pub enter-requires-clause-below : goal.enter-requires-clause-below
enter-requires-clause-below c =
    below_more c.loop-i.at (length (listed c.loop-i.entries)) c.entry_of-entry.result.what c.entry_of-entry.result.rest (omega arith) c.entry_of-entry.ensures.below

pub loop-i-preserved : goal.loop-i-preserved
loop-i-preserved c =
    let e = c.in_ok-at.ensures in
    let defined : entry_scope (scope_at (listed c.loop-i.entries)) c.entry_of-entry.result ≡ definition_in (definition_view c.index-definitions-i.result) (scope_at (listed c.loop-i.entries) c.loop-i.at) = c.entry_of-entry.ensures.scope in
    record {
      linked = e.linked;
      extends = extends_more (listed c.args.entries.now) (listed c.loop-i.entries) (listed c.enter.new.entries) _ c.loop-i.invariant.extends e.added;
      within = omega arith;
      same = c.loop-i.invariant.same ∙ define_more (scope_at (listed c.loop-i.entries) c.loop-i.at) (scope_at (listed c.enter.new.entries) c.in_ok-at.at) c.args.definitions.now c.loop-i.i c.index-definitions-i.result (omega arith) c.index-definitions-i.is (e.scope ∙ defined);
      cheaper = more_cheaper c.loop-i.invariant.cheaper.0 c.args.definitions.now c.loop-i.i c.index-definitions-i.result (costs_after (definitions (map definition_view c.args.definitions.now)) (costs_at (listed c.args.entries.now) c.args.scope))
          (costs_at (listed c.enter.new.entries) c.in_ok-at.at) (entry_costs (costs_at (listed c.loop-i.entries)) c.entry_of-entry.result) (omega arith) c.index-definitions-i.is e.costs
          (c.entry_of-entry.ensures.cheaper c.loop-i.invariant.cheaper.0 c.loop-i.invariant.cheaper.1) c.loop-i.invariant.cheaper.2;
    }

pub loop-i-init : goal.loop-i-init
loop-i-init c =
    let es = listed c.args.entries.now in
    record {
      linked = c.requires.linked;
      extends = extends_self es;
      within = c.requires.scope;
      same = refl;
      cheaper = (costs_at es c.args.scope, self_cheaper es c.args.scope c.args.scope c.requires.linked (omega arith) c.requires.scope, refl);
    }

pub returns-clause-same : goal.returns-clause-same
returns-clause-same c =
    c.loop-i.invariant.same
    ∙ ap (λ ds. definitions_in (definitions (map definition_view ds)) (scope_at (listed c.loop-i.entries) c.loop-i.at)) (drop_all c.loop-i.i c.args.definitions.now (omega arith))

pub returns-clause-cheaper : goal.returns-clause-cheaper
returns-clause-cheaper c =
    let k = c.loop-i.invariant.cheaper in
    all_cheaper c.args.definitions.now c.loop-i.i (costs_after (definitions (map definition_view c.args.definitions.now)) (costs_at (listed c.args.entries.now) c.args.scope)) k.0 (costs_at (listed c.loop-i.entries) c.loop-i.at) (omega arith) k.1 k.2
