-- What a tree writes to a hasher: its kind, unless it is a number, and then its contents. A set and a function write
-- one word, the hash of their parts. The parts of a function are its arguments and values, pair by pair; an argument
-- that is the successor of the one before is skipped.
use Rattle.std.specs.Prelude.{ℕ, ◌++◌, [], fold, Bool, false, pos, ◌+ℤ◌, if◌then◌else◌}
use Rattle.std.specs.Ordering.{int_eq}
use Rattle.std.specs.Hash as fed
use Rattle.std.specs.Hash.{HashWrites}
use Rattle.std.specs.Hash.FoldHasher as folding
use Rattle.tla_value.specs.Tree.{Tree, Trees, Pairs, truth, int, text, model, set, fun, no_trees, more_trees, no_pairs, more_pairs}

-- the word that a hasher returns after some writes
unfoldable pub word_of : HashWrites → ℕ
word_of ws = folding.finish (fold folding.write folding.initial ws)

-- whether a tree is the number after another
abbrev pub is_next : Tree → Tree → Bool
is_next (int x) (int y) = int_eq (x +ℤ pos 1) y
is_next _ _ = false

-- the writes of an argument that comes after another
abbrev pub unless_next : Tree → Tree → HashWrites → HashWrites
unless_next a b ws = if is_next a b then [] else ws

abbrev mutual
  pub tree_writes : Tree → HashWrites
  tree_writes (truth b) = fed.u8 0 ++ fed.bool b
  tree_writes (int z) = fed.i64 z
  tree_writes (text s) = fed.u8 2 ++ fed.str s
  tree_writes (model s) = fed.u8 3 ++ fed.str s
  tree_writes (set ts) = fed.u8 4 ++ fed.u64 (word_of (trees_writes ts))
  tree_writes (fun ps) = fed.u8 5 ++ fed.u64 (word_of (pairs_writes ps))

  pub trees_writes : Trees → HashWrites
  trees_writes no_trees = []
  trees_writes (more_trees t ts) = tree_writes t ++ trees_writes ts

  pub pairs_writes : Pairs → HashWrites
  pairs_writes no_pairs = []
  pairs_writes (more_pairs a v ps) = tree_writes a ++ (tree_writes v ++ writes_behind a ps)

  -- the writes of the pairs that come after an argument
  pub writes_behind : Tree → Pairs → HashWrites
  writes_behind a no_pairs = []
  writes_behind a (more_pairs b v ps) = unless_next a b (tree_writes b) ++ (tree_writes v ++ writes_behind b ps)
