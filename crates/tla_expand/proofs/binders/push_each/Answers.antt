use Rattle.std.proofs.Common.{refl, arith}
use Rattle.tla_tree.specs.View.{view}
use Rattle.tla_scopes.specs.Expand.{expand}
use Rattle.tla_expand.proofs.Groups.{one_name}
use Rattle.tla_expand.proofs.binders.push_each.Goals as goal

pub loop-i-preserved : goal.loop-i-preserved
loop-i-preserved c = record {
  same = λ σ. one_name c.loop-i.binds.items c.push.new.items.items _ c.args.names.now c.loop-i.i c.index-names-i.result σ (expand (view c.args.set.now) σ) _ c.in_ok-push.ensures.ok (omega arith) c.index-names-i.is refl refl (c.loop-i.invariant.same σ);
}
