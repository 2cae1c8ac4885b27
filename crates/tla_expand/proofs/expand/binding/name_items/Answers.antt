use Rattle.std.proofs.Common.{◌∙◌, ap, sym, arith}
use Rattle.tla_expand.specs.declared.binders.Bind.{Bind}
use Rattle.tla_expand.specs.Private.Binders.{names_of, item_names}
use Rattle.tla_scopes.specs.Scopes.{scope_at}
use Rattle.tla_scopes.proofs.Binds.{extends_trans}
use Rattle.tla_expand.proofs.Groups.{item_step, left_step}
use Rattle.tla_scopes.specs.Listed.{listed}
use Rattle.tla_expand.proofs.expand.binding.name_items.Goals as goal

pub loop-i-preserved : goal.loop-i-preserved
loop-i-preserved c =
    let e = c.in_ok-at.ensures in
    let ws = c.names_for_items-names.result.now in
    let w = c.names_for_items-names.ensures ∙ ap (λ (b : Bind). item_names (names_of b.names)) (sym c.index-binds-i.is) in
    record {
      linked = e.linked;
      extends = extends_trans (listed c.args.entries.now) (listed c.loop-i.entries) (listed c.name_each.new.entries) c.loop-i.invariant.extends e.extends;
      within = e.within;
      grown = omega (arith, c.loop-i.invariant.grown, e.grown);
      bound = λ σ d. left_step c.args.binds.now c.loop-i.i c.loop-i.next _ c.index-binds-i.result ws σ d (omega arith) c.index-binds-i.is w (c.loop-i.invariant.bound σ d);
      same = λ σ. c.loop-i.invariant.same σ ∙ item_step c.args.binds.now c.loop-i.i c.loop-i.next c.index-binds-i.result ws σ (scope_at (listed c.loop-i.entries) c.loop-i.at) (scope_at (listed c.name_each.new.entries) c.in_ok-at.at) (omega arith) c.index-binds-i.is w e.same;
    }
