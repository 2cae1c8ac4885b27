use Rattle.std.proofs.Common.{◌≡◌, ◌≤◌, length, drop, None}
use Rattle.tla_eval.specs.Private.Wheels.{wheel_trees, next_wheels, turned_from}
use Rattle.tla_eval.proofs.odometer.turn.Given as goal

abbrev pub invariant-loop-index : goal.invariant-loop-index
invariant-loop-index l = record {
  now : wheel_trees l.wheels.items ≡ turned_from l.index (wheel_trees l.initial.wheels.items);
  long : length l.wheels.items ≡ length l.initial.wheels.items;
  few : l.index ≤ length l.initial.wheels.items;
  none : next_wheels (drop l.index (wheel_trees l.initial.wheels.items)) ≡ None;
}

abbrev pub decreases-loop-index : goal.decreases-loop-index
decreases-loop-index l = l.index
