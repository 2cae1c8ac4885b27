use Rattle.std.proofs.Common.{◌≡◌, drop, map}
use Rattle.tla_value.specs.TreeOf.{tree_of}
use Rattle.tla_core.specs.Lists.{each}
use Rattle.tla_core.specs.Patterns.{fitting}
use Rattle.tla_eval.specs.Private.Parts.{nothing_of}
use Rattle.tla_eval.proofs.patterns.try_all.Given as goal

-- the rest decides
abbrev pub invariant-loop-element : goal.invariant-loop-element
invariant-loop-element l = nothing_of (each (fitting l.place l.count) (map tree_of l.elements)) ≡ nothing_of (each (fitting l.place l.count) (map tree_of (drop l.element-index l.elements)))
