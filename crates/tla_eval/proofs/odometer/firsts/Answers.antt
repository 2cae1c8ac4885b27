use Rattle.std.proofs.Common.{◌<◌, length, sym, ap, subst, ◌∙◌, arith}
use Rattle.std.proofs.lemmas.List.{length-map, get_or-map}
use Rattle.tla_value.specs.TreeOf.{tree_of}
use Rattle.tla_eval.specs.Private.Wheels.{WheelTree, wheel_tree, wheel_trees}
use Rattle.tla_eval.proofs.Wheels.{full_at}
use Rattle.tla_eval.proofs.odometer.firsts.Goals as goal

pub unreachable-requires : goal.unreachable-requires
unreachable-requires c =
    let i = c.loop-wheel.wheel-index in
    let w = c.wheel-item.result in
    let full = full_at (wheel_trees c.args.wheels.now) i (wheel_tree w) c.requires (subst (λ n. i < n) (sym (length-map c.args.wheels.now wheel_tree)) c.loop-wheel-test.true) in
    let same = get_or-map wheel_tree c.args.wheels.now i w (wheel_tree w) c.loop-wheel-test.true ∙ sym (ap wheel_tree c.wheel-item.is) in
    let some : 0 < length w.rest.now = subst (λ n. 0 < n) (ap (λ (t : WheelTree). length t.0) same ∙ length-map w.rest.now tree_of) full in
    omega (arith, some, c.in_default.len_below)
