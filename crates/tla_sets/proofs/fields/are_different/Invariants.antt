use Rattle.std.proofs.Common.{◌≡◌, drop}
use Rattle.tla_value.specs.Choices.{keys_of, is_each_once}
use Rattle.tla_core.specs.ExprOf.{fields_of_cores}
use Rattle.tla_sets.proofs.fields.are_different.Given as goal

abbrev pub invariant-loop-i : goal.invariant-loop-i
invariant-loop-i l = is_each_once (keys_of (fields_of_cores l.fields)) ≡ is_each_once (keys_of (fields_of_cores (drop l.i l.fields)))
