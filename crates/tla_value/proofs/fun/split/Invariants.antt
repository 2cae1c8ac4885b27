use Rattle.std.proofs.Common.{◌≡◌, ◌++◌, map}
use Rattle.tla_value.specs.TreeOf.{tree_of, pair_of}
use Rattle.tla_value.specs.Funs.{arguments, values_of}
use Rattle.tla_value.proofs.fun.split.Given as goal

-- those so far, and the rest
abbrev pub invariant-loop-argument : goal.invariant-loop-argument
invariant-loop-argument l = record {
  arguments : map tree_of l.arguments.items ++ arguments (map pair_of l.argument-iterator.rest.items) ≡ arguments (map pair_of l.fn.pairs.items);
  values : map tree_of l.values.items ++ values_of (map pair_of l.argument-iterator.rest.items) ≡ values_of (map pair_of l.fn.pairs.items);
}
