-- Functions as lists of pairs that rise by argument.
use Rattle.std.specs.Prelude.{◌≡◌, ℕ, ◌+◌, pos, ◌<◌, ◌≤◌, Bool, true, cond, List, [], ◌∷◌, map, Option, Some, None, Result, Ok, Err, length}
use Rattle.std.specs.BTreeMap.{insert_entry}
use Rattle.std.specs.Map.{lookup}
use Rattle.tla_value.specs.Tree.{Tree, int, fun, pairs, deepest_pair}
use Rattle.tla_value.specs.IsValue.{IsValue}
use Rattle.tla_value.specs.declared.error.ValueError.{ValueError}
use Rattle.tla_value.specs.declared.set.TheConstants.{MAX_ELEMENTS, MAX_NESTING}
use Rattle.tla_value.specs.declared.error.ValueError.TheVariants.{TooMany, TooDeep, Memory}
use Rattle.tla_value.specs.Order.{tree_cmp, tree_eq}

-- the arguments of some pairs
abbrev pub arguments : List (Tree × Tree) → List Tree
arguments ps = map (λ (p : Tree × Tree). p.0) ps

-- the values of some pairs
abbrev pub values_of : List (Tree × Tree) → List Tree
values_of ps = map (λ (p : Tree × Tree). p.1) ps

-- the value of the first pair with this argument
abbrev pub value_at : Tree → List (Tree × Tree) → Option Tree
value_at t ps = lookup (tree_eq t) ps

-- the pairs in rising order; of those with the same argument only the first
abbrev pub fun_of : List (Tree × Tree) → List (Tree × Tree)
fun_of [] = []
fun_of (p ∷ ps) = insert_entry tree_cmp (fun_of ps) p.0 p.1

-- replaces the value at one argument; outside the domain nothing changes (Book, chapter 16: EXCEPT)
abbrev pub except_of : Tree → Tree → List (Tree × Tree) → List (Tree × Tree)
except_of a v ps = map (λ (p : Tree × Tree). (p.0, cond (tree_eq a p.0) v p.1)) ps

-- an item before the others, if the test is true and there are others
abbrev pub with_item : Bool → Tree → Option (List Tree) → Option (List Tree)
with_item true t (Some ts) = Some (t ∷ ts)
with_item _ t _ = None

-- the values, if the arguments are k, k + 1, ..
abbrev pub items_from : ℕ → List (Tree × Tree) → Option (List Tree)
items_from k [] = Some []
items_from k (p ∷ ps) = with_item (tree_eq p.0 (int (pos k))) p.1 (items_from (k + 1) ps)

-- the items of a sequence: a function on 1 to n
abbrev pub items_of : List (Tree × Tree) → Option (List Tree)
items_of ps = items_from 1 ps

-- why there is no function of these pairs: the first limit that they exceed; memory may run out at any time
abbrev pub RefusesFun : List (Tree × Tree) → ValueError → Type 0
RefusesFun ps TooMany = MAX_ELEMENTS < length ps
RefusesFun ps TooDeep = (length ps ≤ MAX_ELEMENTS) × (MAX_NESTING ≤ deepest_pair (pairs ps))
RefusesFun ps Memory = Unit {0}

-- the result is the function of these pairs, or the reason why there is none
abbrev pub MakesFun : List (Tree × Tree) → Result (List (Tree × Tree)) ValueError → Type 0
MakesFun ps (Ok f) = (f ≡ ps) × IsValue (fun (pairs ps))
MakesFun ps (Err e) = RefusesFun ps e
