-- The bytes of a `Block`.
use Rattle.std.specs.Prelude.{ℕ, List, slice_range}
use Rattle.block_writer.specs.declared.buffer.Block.{Block}

-- the bytes that wait to be passed on
abbrev pub waiting : Block → List ℕ
waiting block = slice_range block.bytes block.from block.used
