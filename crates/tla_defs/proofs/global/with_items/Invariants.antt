use Rattle.std.proofs.Common.{◌≡◌, length, map}
use Rattle.tla_expand.specs.Names.{scope_of, outer_of}
use Rattle.tla_defs.specs.Given as given_names
use Rattle.tla_names.specs.Mentions.{item_of}
use Rattle.tla_defs.proofs.global.with_items.Given as goal

abbrev pub invariant-loop-left : goal.invariant-loop-left
invariant-loop-left l = record {
  same : given_names.with_items (outer_of l.initial.all) l.given (scope_of l.initial.all) ≡ given_names.with_items (outer_of l.all) (map item_of l.left) (scope_of l.all);
  outer : outer_of l.all ≡ outer_of l.initial.all;
}

abbrev pub decreases-loop-left : goal.decreases-loop-left
decreases-loop-left l = length l.left
