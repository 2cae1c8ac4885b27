use Rattle.std.proofs.Common.{◌∙◌, arith}
use Rattle.tla_scopes.specs.Scopes.{scope_at}
use Rattle.tla_scopes.proofs.Binds.{extends_trans}
use Rattle.tla_expand.proofs.Groups.{element_step}
use Rattle.tla_scopes.specs.Listed.{listed}
use Rattle.tla_expand.proofs.expand.binding.name_elements.Goals as goal

pub loop-i-preserved : goal.loop-i-preserved
loop-i-preserved c =
    let e = c.in_ok-at.ensures in
    record {
      linked = e.linked;
      extends = extends_trans (listed c.args.entries.now) (listed c.loop-i.entries) (listed c.name_element.new.entries) c.loop-i.invariant.extends e.extends;
      within = e.within;
      same = λ σ. c.loop-i.invariant.same σ ∙ element_step c.args.binds.now c.loop-i.i c.args.bound c.index-binds-i.result σ (scope_at (listed c.loop-i.entries) c.loop-i.at) (scope_at (listed c.name_element.new.entries) c.in_ok-at.at) (omega arith) c.index-binds-i.is e.same;
    }
