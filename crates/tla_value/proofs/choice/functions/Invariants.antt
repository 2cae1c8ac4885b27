use Rattle.std.proofs.Common.{◌≡◌, take, map}
use Rattle.tla_value.specs.TreeOf.{tree_of}
use Rattle.tla_value.specs.Choices.{functions_by}
use Rattle.tla_value.proofs.choice.functions.Given as goal

abbrev pub invariant-loop-number : goal.invariant-loop-number
invariant-loop-number l = map tree_of l.functions.items ≡ take l.number (functions_by (map tree_of l.arguments) (map (λ s. s.now) l.sets))
