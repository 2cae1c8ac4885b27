use Rattle.std.proofs.Common.{◌≡◌, map}
use Rattle.tla_core.specs.Private.Known.{named_core, named_fixed}
use Rattle.tla_core.proofs.making.fixed_fields.Given as goal

abbrev pub invariant-loop-field : goal.invariant-loop-field
invariant-loop-field l = map named_fixed l.trees.items ≡ map named_core l.yielded
