-- The choices of one member of each of some lists that weren't taken yet, as an odometer keeps them.
use Rattle.std.specs.Prelude.{◌≡◌, ℕ, zero, suc, ◌<◌, false, cond, List, [], ◌∷◌, ◌++◌, map, drop, length, get_or, Option, Some, None}
use Rattle.tla_value.specs.Tree.{Tree, truth}
use Rattle.tla_value.specs.TreeOf.{tree_of}
use Rattle.tla_value.specs.Choices.{choices}
use Rattle.tla_eval.specs.declared.odometer.Wheel.{Wheel}
use Rattle.tla_eval.specs.declared.odometer.Odometer.{Odometer}

-- the rest of a list from the member of the next choice on, and the list
abbrev pub WheelTree : Type 0
WheelTree = List Tree × List Tree

abbrev pub wheel_tree : Wheel → WheelTree
wheel_tree w = (map tree_of w.rest.now, map tree_of w.list.now)

abbrev pub wheel_trees : List Wheel → List WheelTree
wheel_trees ws = map wheel_tree ws

abbrev pub lists_in : List WheelTree → List (List Tree)
lists_in ws = map (λ (w : WheelTree). w.1) ws

-- each rest has a member, and each list
abbrev pub AreFull : List WheelTree → Type 0
AreFull [] = Unit {0}
AreFull (w ∷ ws) = (0 < length w.0) × (0 < length w.1) × AreFull ws

-- the first member of each rest
abbrev pub heads : List WheelTree → List Tree
heads ws = map (λ (w : WheelTree). get_or w.0 0 (truth false)) ws

-- those with the first member of the rest, where these are those of the other wheels, and then those with its other
-- members
abbrev pub left_by : List Tree → List (List Tree) → List (List Tree) → List (List Tree)
left_by [] cs ls = []
left_by (x ∷ xs) cs ls = map (λ c. x ∷ c) cs ++ choices (xs ∷ ls)

abbrev pub left_in : List WheelTree → List (List Tree)
left_in [] = [] ∷ []
left_in (w ∷ ws) = left_by w.0 (left_in ws) (lists_in ws)

abbrev pub left_of : Odometer → List (List Tree)
left_of o = cond o.has_ended [] (left_in (wheel_trees o.wheels.items))

abbrev pub IsReady : Odometer → Type 0
IsReady o = o.has_ended ≡ false → AreFull (wheel_trees o.wheels.items)

-- all back at their first member
abbrev pub turned_back : List WheelTree → List WheelTree
turned_back ws = map (λ (w : WheelTree). (w.1, w.1)) ws

-- The wheels of the next choice: the last wheel that has another member is at it, and those after it are back.
abbrev pub turned_one : List Tree → List Tree → List WheelTree → Option (List WheelTree)
turned_one l [] ws = None
turned_one l (x ∷ xs) ws = Some ((x ∷ xs, l) ∷ turned_back ws)

abbrev pub turned_by : WheelTree → List WheelTree → Option (List WheelTree) → Option (List WheelTree)
turned_by w ws (Some us) = Some (w ∷ us)
turned_by w ws None = turned_one w.1 (drop 1 w.0) ws

abbrev pub next_wheels : List WheelTree → Option (List WheelTree)
next_wheels [] = None
next_wheels (w ∷ ws) = turned_by w ws (next_wheels ws)

-- those from one of them on back
abbrev pub turned_from : ℕ → List WheelTree → List WheelTree
turned_from zero ws = turned_back ws
turned_from (suc i) [] = []
turned_from (suc i) (w ∷ ws) = w ∷ turned_from i ws
