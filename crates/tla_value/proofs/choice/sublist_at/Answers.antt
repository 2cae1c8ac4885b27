use Rattle.std.proofs.Common.{drop, length, ap, sym, ◌∙◌, add-one, suc, ◌^◌}
use Rattle.std.proofs.lemmas.List.{length-map}
use Rattle.tla_value.specs.TreeOf.{tree_of}
use Rattle.tla_value.proofs.Ways.{from_place}
use Rattle.tla_value.proofs.Lists.{map-drop}
use Rattle.tla_value.proofs.Sublists.{half_of, positive_half, kept_more}
use Rattle.tla_value.proofs.choice.sublist_at.Goals as goal

pub nonzero_rem-left : goal.nonzero_rem-left
nonzero_rem-left c = positive_half c.args.items.now c.loop-item.item-index c.loop-item.half c.loop-item-test.true c.loop-item.invariant.half

pub loop-item-preserved : goal.loop-item-preserved
loop-item-preserved c =
    let vs = c.args.items.now in
    let i = c.loop-item.item-index in
    let half = half_of vs i c.loop-item.half c.loop-item-test.true c.loop-item.invariant.half in
    let h = c.in_ok-keep_copy.ensures.ok in
    record {
      half = rw add-one half;
      kept = rw add-one (kept_more _ _ _ _ _ _ _ _ (from_place tree_of vs i c.item-item.result c.loop-item-test.true c.item-item.is)
          (half ∙ ap (λ n. 2 ^ n) (sym (length-map (drop (suc i) vs) tree_of) ∙ ap length (map-drop tree_of (suc i) vs))) c.in_ok-keep_copy.ensures.ok c.loop-item.invariant.kept);
    }
