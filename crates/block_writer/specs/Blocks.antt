-- The contents of a `Blocks`, as its `Write` shows them.
use Rattle.std.specs.Prelude.{ℕ, ◌+◌, ◌-◌, ◌^◌, List, ◌∷◌, ◌++◌, length, Option}
use Rattle.std.specs.Option.{option_map}
use Rattle.block_writer.specs.declared.passing.Blocks.{Blocks}
use Rattle.block_writer.specs.Waiting.{waiting}

-- If the contents of the inner writer are known: the name of the reference to it; its length before the first byte,
-- plus 2 ^ 64 - 1; then its bytes and those that wait. The first two entries aren't bytes. Code that is generic in its
-- writer only appends to this list, so it keeps them.
abbrev pub named_contents : ℕ → Option (List ℕ) → List ℕ → ℕ → Option (List ℕ)
named_contents name known waits given = option_map
    (λ held. let all = held ++ waits in name ∷ (length all + (2 ^ 64 - 1 - given)) ∷ all) known

abbrev pub blocks_contents : {T : Type 0} → (T → Option (List ℕ)) → Blocks T → Option (List ℕ)
blocks_contents contents blocks = named_contents
    blocks.out.ghost_name (contents blocks.out.now) (waiting blocks.block) blocks.block.given
