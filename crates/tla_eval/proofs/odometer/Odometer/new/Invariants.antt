use Rattle.std.proofs.Common.{◌≡◌, map, take, Bor, List}
use Rattle.tla_value.specs.TreeOf.{tree_of}
use Rattle.tla_value.specs.declared.value.Value.{Value}
use Rattle.tla_eval.specs.Private.Wheels.{AreFull, wheel_trees}
use Rattle.tla_eval.proofs.odometer.Odometer.new.Given as goal

abbrev pub invariant-loop-list : goal.invariant-loop-list
invariant-loop-list l = record {
  wheels : wheel_trees l.wheels.items ≡ map (λ (r : Bor (List Value)). (map tree_of r.now, map tree_of r.now)) (take l.list-index l.lists);
  full : AreFull (wheel_trees l.wheels.items);
}
