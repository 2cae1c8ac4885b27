use Rattle.std.proofs.Common.{◌∙◌, ap, sym, arith}
use Rattle.tla_tree.specs.declared.word.Written.{Written}
use Rattle.tla_scopes.specs.Scopes.{scope_at}
use Rattle.tla_scopes.proofs.Binds.{extends_more}
use Rattle.tla_expand.proofs.Groups.{length_more, each_more}
use Rattle.tla_scopes.specs.Listed.{listed}
use Rattle.tla_expand.proofs.expand.binding.name_each.Goals as goal

pub loop-i-preserved : goal.loop-i-preserved
loop-i-preserved c =
    let e = c.in_ok-at.ensures in
    let more = length_more (listed c.loop-i.entries) (listed c.enter.new.entries) _ e.added in
    record {
      linked = e.linked;
      extends = extends_more (listed c.args.entries.now) (listed c.loop-i.entries) (listed c.enter.new.entries) _ c.loop-i.invariant.extends e.added;
      within = omega arith;
      grown = omega (arith, more, c.loop-i.invariant.grown);
      few = omega (arith, e.end, e.few, more, c.loop-i.invariant.grown, c.requires.small);
      same = c.loop-i.invariant.same ∙ each_more c.args.names.now c.loop-i.i c.args.bound c.index-names-i.result c.as_bytes.result.now (scope_at (listed c.loop-i.entries) c.loop-i.at) (scope_at (listed c.enter.new.entries) c.in_ok-at.at) (omega arith) c.index-names-i.is (c.as_bytes.ensures ∙ ap (λ (w : Written). w.word) (sym c.index-names-i.is)) e.scope;
    }
