use Rattle.std.proofs.Common.{refl, arith}
use Rattle.tla_tree.specs.View.{pattern_view}
use Rattle.tla_expand.specs.Private.Binders.{binds_in}
use Rattle.tla_expand.proofs.Groups.{one_group}
use Rattle.tla_expand.proofs.binders.bind_list.Goals as goal

pub loop-i-preserved : goal.loop-i-preserved
loop-i-preserved c = record {
  same = λ σ. one_group (binds_in c.loop-i.binds.items σ) (binds_in c.push_entry.new.binds.items σ) c.args.groups.now c.loop-i.i c.index-groups-i.result (pattern_view c.index-groups-i.result.pattern) σ _ (omega arith) c.index-groups-i.is refl (c.in_ok-push_entry.ensures.ok σ) (c.loop-i.invariant.same σ);
}
