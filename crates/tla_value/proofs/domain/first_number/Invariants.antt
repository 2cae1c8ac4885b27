use Rattle.std.proofs.Common.{◌≡◌, take, map}
use Rattle.tla_value.specs.TreeOf.{tree_of}
use Rattle.tla_value.specs.Choices.{counted_up}
use Rattle.tla_value.specs.IsValue.{FitNumbers}
use Rattle.tla_value.proofs.domain.first_number.Given as goal

-- those so far are consecutive
abbrev pub invariant-loop-i : goal.invariant-loop-i
invariant-loop-i l = record {
  numbers : map tree_of (take l.i l.arguments) ≡ counted_up l.i l.first;
  fit : FitNumbers l.i l.first;
}
