use Rattle.std.proofs.Common.{◌≡◌, ◌++◌, List, length, map}
use Rattle.tla_config.specs.Names.{Name}
use Rattle.tla_items.specs.References.{Reference, item_reference, next_names}
use Rattle.tla_names.specs.Mentions.{item_of}
use Rattle.tla_items.proofs.references.References.add_items.Given as goal

abbrev pub invariant-loop-left : goal.invariant-loop-left
invariant-loop-left l = (rest : List Reference) (x : Name) → next_names (l.self ++ (map item_reference (map item_of l.left) ++ rest)) x ≡ next_names (l.fn.self ++ (map item_reference l.items ++ rest)) x

abbrev pub decreases-loop-left : goal.decreases-loop-left
decreases-loop-left l = length l.left
