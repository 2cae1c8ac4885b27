use Rattle.std.proofs.Common.{arith, ◌∙◌, ap, sym}
use Rattle.tla_tree.specs.declared.word.Written.{Written}
use Rattle.tla_scopes.proofs.Binds.{bind_more, costs_more, extends_more}
use Rattle.tla_scopes.specs.Listed.{listed}
use Rattle.tla_scopes.proofs.arena.bind.Goals as goal

pub loop-i-preserved : goal.loop-i-preserved
loop-i-preserved c =
    let e = c.in_ok-at.ensures in
    record {
      linked = e.linked;
      extends = extends_more (listed c.args.entries.now) (listed c.loop-i.entries) (listed c.enter.new.entries) _ c.loop-i.invariant.extends e.added;
      within = omega arith;
      same = bind_more (listed c.args.entries.now) (listed c.loop-i.entries) (listed c.enter.new.entries) c.args.parameters.now c.args.arguments.now c.loop-i.i c.loop-i.at c.in_ok-at.at c.args.scope c.index-parameters-i.result c.as_bytes.result.now c.index-arguments-i.result (omega arith) c.requires.same c.index-parameters-i.is (c.as_bytes.ensures ∙ ap (λ (w : Written). w.word) (sym c.index-parameters-i.is)) c.index-arguments-i.is c.loop-i.invariant.extends c.requires.scope e.scope ∙ c.loop-i.invariant.same;
      costs = costs_more (listed c.args.entries.now) (listed c.loop-i.entries) (listed c.enter.new.entries) c.args.parameters.now c.args.arguments.now c.loop-i.i c.loop-i.at c.in_ok-at.at c.args.scope c.index-parameters-i.result c.as_bytes.result.now c.index-arguments-i.result (omega arith) c.requires.same c.index-parameters-i.is (c.as_bytes.ensures ∙ ap (λ (w : Written). w.word) (sym c.index-parameters-i.is)) c.index-arguments-i.is c.loop-i.invariant.extends c.requires.scope e.costs ∙ c.loop-i.invariant.costs;
    }
