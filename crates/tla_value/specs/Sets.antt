-- Sets as rising lists: membership, the rising list of some trees, and the result of a call that builds a set.
use Rattle.std.specs.Prelude.{◌≡◌, ℕ, ◌<◌, ◌≤◌, Bool, List, [], ◌∷◌, length, max, Result, Ok, Err}
use Rattle.std.specs.List.{list_any}
use Rattle.std.specs.BTreeSet.{insert_key}
use Rattle.tla_value.specs.Tree.{Tree, trees, set, fun, pair_count, deepest}
use Rattle.tla_value.specs.Order.{tree_cmp, tree_eq}
use Rattle.tla_value.specs.IsValue.{IsValue}
use Rattle.tla_value.specs.declared.error.ValueError.{ValueError}
use Rattle.tla_value.specs.declared.set.TheConstants.{MAX_ELEMENTS, MAX_NESTING}
use Rattle.tla_value.specs.declared.error.ValueError.TheVariants.{TooMany, TooDeep, Memory}

-- whether a tree is in a list
abbrev pub is_member : Tree → List Tree → Bool
is_member t ts = list_any (tree_eq t) ts

-- the rising list of the trees of a list, each once
abbrev pub set_of : List Tree → List Tree
set_of [] = []
set_of (t ∷ ts) = insert_key tree_cmp (set_of ts) t

-- Why there is no set of these members: the first limit exceeded, where `size` is the greatest number of members or
-- pairs in it. Memory may run out at any time.
abbrev pub RefusesSetOfSize : ℕ → List Tree → ValueError → Type 0
RefusesSetOfSize size ts TooMany = MAX_ELEMENTS < size
RefusesSetOfSize size ts TooDeep = (size ≤ MAX_ELEMENTS) × (MAX_NESTING ≤ deepest (trees ts))
RefusesSetOfSize size ts Memory = Unit {0}

-- the result is the set of these members, or the reason why there is none
abbrev pub MakesSetOfSize : ℕ → List Tree → Result (List Tree) ValueError → Type 0
MakesSetOfSize size ts (Ok s) = (s ≡ ts) × IsValue (set (trees ts))
MakesSetOfSize size ts (Err e) = RefusesSetOfSize size ts e

-- the same for members that are values, so that none of them is too large
abbrev pub RefusesSet : List Tree → ValueError → Type 0
RefusesSet ts e = RefusesSetOfSize (length ts) ts e

abbrev pub MakesSet : List Tree → Result (List Tree) ValueError → Type 0
MakesSet ts result = MakesSetOfSize (length ts) ts result

-- the same for members that are functions that the call builds, which may be too large as well
abbrev pub most_pairs : List Tree → ℕ
most_pairs [] = 0
most_pairs (fun ps ∷ ts) = max (pair_count ps) (most_pairs ts)
most_pairs (t ∷ ts) = most_pairs ts

abbrev pub MakesSetOfFunctions : List Tree → Result (List Tree) ValueError → Type 0
MakesSetOfFunctions ts result = MakesSetOfSize (max (length ts) (most_pairs ts)) ts result
