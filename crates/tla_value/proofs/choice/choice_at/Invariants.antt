use Rattle.std.proofs.Common.{◌≡◌, ◌<◌, ◌++◌, drop, map, zip}
use Rattle.tla_value.specs.Tree.{pairs as pairs_of, deepest_pair}
use Rattle.tla_value.specs.TreeOf.{tree_of, pair_of}
use Rattle.tla_value.specs.Private.Inner.{ways, choice_of}
use Rattle.tla_value.proofs.choice.choice_at.Given as goal

-- the pairs picked so far, and the rest of the choice, whose number is the remaining one among those of the other sets
abbrev pub invariant-loop-i : goal.invariant-loop-i
invariant-loop-i l =
    let lists = map (λ s. s.now) l.sets in
    let arguments = map tree_of l.arguments in
    record {
      ways : l.ways ≡ ways (drop l.i lists);
      left : l.left < l.ways;
      shallow : deepest_pair (pairs_of (map pair_of l.pairs.items)) < 64;
      picked : map pair_of l.pairs.items ++ zip (drop l.i arguments) (choice_of (drop l.i lists) l.left) ≡ zip arguments (choice_of lists l.number);
    }
