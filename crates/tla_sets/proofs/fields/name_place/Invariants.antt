use Rattle.std.proofs.Common.{◌≡◌, map, drop}
use Rattle.tla_value.specs.Tree.{text}
use Rattle.tla_value.specs.TreeOf.{tree_of}
use Rattle.tla_value.specs.Sets.{is_member}
use Rattle.tla_sets.proofs.fields.name_place.Given as goal

-- the rest decides
abbrev pub invariant-loop-i : goal.invariant-loop-i
invariant-loop-i l = is_member (text l.name) (map tree_of l.values) ≡ is_member (text l.name) (map tree_of (drop l.i l.values))
