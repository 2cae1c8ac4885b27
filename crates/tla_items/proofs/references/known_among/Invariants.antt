use Rattle.std.proofs.Common.{◌≡◌, ◌∷◌, ◌++◌, length, map}
use Rattle.std.specs.Borrow.{Bor}
use Rattle.tla_items.specs.References as references
use Rattle.tla_config.specs.Names.{Name}
use Rattle.tla_items.proofs.references.known_among.Given as goal

abbrev pub invariant-loop-left : goal.invariant-loop-left
invariant-loop-left l = references.at_word ∷ references.known_among l.scope l.names ≡ l.known ++ references.known_among l.scope (map (λ (w : Bor Name). w.now) l.left)

abbrev pub decreases-loop-left : goal.decreases-loop-left
decreases-loop-left l = length l.left
