use Rattle.std.proofs.Common.{◌≡◌, take, map}
use Rattle.tla_value.specs.Tree.{Tree}
use Rattle.tla_value.specs.TreeOf.{tree_of}
use Rattle.tla_value.proofs.choice.repeated.Given as goal

abbrev pub invariant-loop-i : goal.invariant-loop-i
invariant-loop-i l = map (λ s. s.now) l.parts.items ≡ map (λ (t : Tree). l.set) (map tree_of (take l.i l.items))
