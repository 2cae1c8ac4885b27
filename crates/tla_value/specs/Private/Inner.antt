-- Definitions for private contracts: indices, numbered choices, fields as pairs. No public contract cites them.
use Rattle.std.specs.Prelude.{ℕ, pos, Bool, true, false, cond, List, [], ◌∷◌, map, length, not, filter, zero, suc, ◌+◌, ◌*◌, ◌/◌, ◌%◌, ◌^◌, ◌&&◌, nat_le, slice_index_or, if◌then◌else◌}
use Rattle.tla_value.specs.Tree.{Tree, int, trees, set, truth, text}
use Rattle.tla_value.specs.Order.{tree_eq}
use Rattle.tla_value.specs.TreeOf.{tree_of}
use Rattle.tla_value.specs.declared.value.Value.{Value}
use Rattle.tla_value.specs.Sets.{is_member}

-- whether some trees are the numbers k, k + 1, ..
abbrev pub counts_from : ℕ → List Tree → Bool
counts_from k [] = true
counts_from k (t ∷ ts) = tree_eq t (int (pos k)) && counts_from (k + 1) ts

-- the pairs with the value at an index replaced
abbrev pub with_value_at : List (Tree × Tree) → ℕ → Tree → List (Tree × Tree)
with_value_at [] i v = []
with_value_at (p ∷ ps) zero v = (p.0, v) ∷ ps
with_value_at (p ∷ ps) (suc i) v = p ∷ with_value_at ps i v

-- the trees of one list that are in another, or those that aren't
abbrev pub chosen_of : Bool → List Tree → List Tree → List Tree
chosen_of shared others ts = filter (λ t. cond shared (is_member t others) (not (is_member t others))) ts

-- the number of lists with one tree of each list, and the one with a number, counted from 0
abbrev pub ways : List (List Tree) → ℕ
ways [] = 1
ways (xs ∷ rest) = length xs * ways rest

abbrev pub choice_of : List (List Tree) → ℕ → List Tree
choice_of [] k = []
choice_of (xs ∷ rest) k = slice_index_or xs (k / ways rest) (truth false) ∷ choice_of rest (k % ways rest)

-- the sublist with a number, counted from 0
abbrev pub sublist_of : List Tree → ℕ → List Tree
sublist_of [] k = []
sublist_of (x ∷ xs) k = let rest = sublist_of xs (k % 2 ^ length xs) in if nat_le (2 ^ length xs) k then x ∷ rest else rest

-- the fields by name, and a field whose set the code borrows
abbrev pub keyed : List (List ℕ × List Tree) → List (Tree × Tree)
keyed fs = map (λ (f : List ℕ × List Tree). (text f.0, set (trees f.1))) fs

abbrev pub field_of : {S : Type 0} → (S → List Tree) → Value × S → Tree × Tree
field_of now f = (tree_of f.0, set (trees (now f.1)))

-- the separator before the text at an index
abbrev pub separator_before : ℕ → List ℕ → List ℕ
separator_before zero separator = []
separator_before (suc n) separator = separator
