-- Sets of all choices: SUBSET, products, sets of functions and of records; and ranges. (Book, chapter 16.)
use Rattle.std.specs.Prelude.{ℕ, zero, suc, ◌+◌, ℤ, pos, ◌+ℤ◌, ◌-ℤ◌, int_le, unsigned_abs, Bool, true, false, not, ◌&&◌, List, [], ◌∷◌, ◌++◌, map, filter, zip, Option, Some, None, if◌then◌else◌}
use Rattle.std.specs.List.{list_all, flat_map}
use Rattle.tla_value.specs.Tree.{Tree, int, text, set, fun, trees, pairs, entries}
use Rattle.tla_value.specs.Sets.{is_member, set_of}
use Rattle.tla_value.specs.Funs.{value_at}

-- all lists with one tree of each list, in their order; the choice from the first list varies slowest
abbrev pub choices : List (List Tree) → List (List Tree)
choices [] = [] ∷ []
choices (xs ∷ rest) = flat_map (λ x. map (λ c. x ∷ c) (choices rest)) xs

-- all functions that map each argument to a value of its list
abbrev pub functions_by : List Tree → List (List Tree) → List Tree
functions_by xs lists = map (λ c. fun (pairs (zip xs c))) (choices lists)

-- all lists that leave out some trees of a list
abbrev pub sublists : List Tree → List (List Tree)
sublists [] = [] ∷ []
sublists (x ∷ xs) = sublists xs ++ map (λ c. x ∷ c) (sublists xs)

-- SUBSET S: the sets of these lists
abbrev pub set_tree : List Tree → Tree
set_tree ts = set (trees (set_of ts))

abbrev pub subsets_of : List Tree → List Tree
subsets_of xs = map set_tree (sublists xs)

-- sequences: functions on 1 to n
abbrev pub numbered : ℕ → List Tree → List (Tree × Tree)
numbered k [] = []
numbered k (t ∷ ts) = (int (pos k), t) ∷ numbered (k + 1) ts

abbrev pub sequence : List Tree → Tree
sequence ts = fun (pairs (numbered 1 ts))

-- S \X T ..: the tuples with one item of each set
abbrev pub tuples_of : List (List Tree) → List Tree
tuples_of sets = map sequence (choices sets)

-- [S -> T]: the functions on the members of S with values in T
abbrev pub functions_of : List Tree → List Tree → List Tree
functions_of xs ys = functions_by xs (map (λ (x : Tree). ys) xs)

-- [a : S, ..]: the functions on the names whose value at each name is in the name's set
abbrev pub keys_of : {A : Type 0} → List (List ℕ × A) → List Tree
keys_of {A} fs = map (λ (f : List ℕ × A). text f.0) fs

abbrev pub parts_of : {A : Type 0} → List (List ℕ × A) → List A
parts_of {A} fs = map (λ (f : List ℕ × A). f.1) fs

abbrev pub if_there : Option Tree → List Tree → Bool
if_there None xs = false
if_there (Some v) xs = is_member v xs

abbrev pub fields_fit : List (List ℕ × List Tree) → Tree → Bool
fields_fit fs (fun ps) = list_all (λ (f : List ℕ × List Tree). if_there (value_at (text f.0) (entries ps)) f.1) fs
fields_fit fs _ = false

abbrev pub records_of : List (List ℕ × List Tree) → List Tree
records_of fs = filter (fields_fit fs) (functions_of (set_of (keys_of fs)) (flat_map (λ (f : List ℕ × List Tree). f.1) fs))

-- whether no tree is in a list twice
abbrev pub is_each_once : List Tree → Bool
is_each_once [] = true
is_each_once (t ∷ ts) = not (is_member t ts) && is_each_once ts

-- a .. b: n numbers from z on, and all from a to b
abbrev pub counted_up : ℕ → ℤ → List Tree
counted_up zero z = []
counted_up (suc n) z = int z ∷ counted_up n (z +ℤ pos 1)

abbrev pub range_of : ℤ → ℤ → List Tree
range_of a b = if int_le a b then counted_up (suc (unsigned_abs (b -ℤ a))) a else []
