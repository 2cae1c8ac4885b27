use Rattle.std.proofs.Common.{◌≡◌, ◌-◌, ◌++◌, map, length, take, Bor, List}
use Rattle.std.specs.Prelude.{reverse, option_map, slice_get}
use Rattle.tla_value.specs.TreeOf.{tree_of}
use Rattle.tla_value.specs.Tree.{Tree}
use Rattle.tla_value.specs.declared.value.Value.{Value}
use Rattle.tla_value.specs.Choices.{choices}
use Rattle.tla_sets.proofs.domain.choice_at.Given as goal

-- the choice from the rest of the lists with the remaining number, followed by the part that is chosen
abbrev pub invariant-loop-i : goal.invariant-loop-i
invariant-loop-i l =
    slice_get (choices (map (λ (r : Bor (List Value)). map tree_of r.now) l.lists)) l.number
    ≡ option_map (λ (c : List Tree). c ++ reverse (map tree_of l.choice.items)) (slice_get (choices (map (λ (r : Bor (List Value)). map tree_of r.now) (take (length l.lists - l.i) l.lists))) l.left)
