use Rattle.std.proofs.Common.{◌≡◌, map}
use Rattle.tla_core.specs.ExprOf.{expr_of}
use Rattle.tla_core.specs.FixedOf.{fixed_of}
use Rattle.tla_core.proofs.making.fixed_parts.Given as goal

abbrev pub invariant-loop-part : goal.invariant-loop-part
invariant-loop-part l = map fixed_of l.trees.items ≡ map expr_of l.yielded
