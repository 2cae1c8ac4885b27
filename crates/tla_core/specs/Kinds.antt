-- The kinds of values, and the limits of new values. A value of the wrong kind is a fault of the node. (Book,
-- chapter 16; the limits are this project's own choice.)
use Rattle.std.specs.Prelude.{ℕ, ◌-◌, max, nat_lt, ℤ, pos, negsuc, int_le, Bool, ◌&&◌, List, length, Option, Some, None, Ok, if◌then◌else◌}
use Rattle.tla_value.specs.Tree.{Tree, truth, int, set, fun, trees, pairs, members, entries, deepest, deepest_pair}
use Rattle.tla_value.specs.Sets.{set_of, most_pairs}
use Rattle.tla_value.specs.Funs.{fun_of, items_of}
use Rattle.tla_value.specs.Choices.{numbered}
use Rattle.tla_value.specs.declared.set.TheConstants.{MAX_ELEMENTS, MAX_NESTING}
use Rattle.tla_core.specs.Fault.{Place, FaultCode, WrongKind, Overflow, TooMany, TooDeep, Outcome, fault}

abbrev pub as_truth : Place → Tree → Outcome Bool
as_truth p (truth b) = Ok b
as_truth p _ = fault WrongKind p

abbrev pub as_int : Place → Tree → Outcome ℤ
as_int p (int z) = Ok z
as_int p _ = fault WrongKind p

abbrev pub as_set : Place → Tree → Outcome (List Tree)
as_set p (set ts) = Ok (members ts)
as_set p _ = fault WrongKind p

abbrev pub as_fun : Place → Tree → Outcome (List (Tree × Tree))
as_fun p (fun ps) = Ok (entries ps)
as_fun p _ = fault WrongKind p

-- the members of a set, the pairs of a function, the items of a sequence
abbrev pub members_of : Tree → Option (List Tree)
members_of (set ts) = Some (members ts)
members_of _ = None

abbrev pub pairs_of : Tree → Option (List (Tree × Tree))
pairs_of (fun ps) = Some (entries ps)
pairs_of _ = None

-- a sequence is a function on 1..n
abbrev pub items : Tree → Option (List Tree)
items (fun ps) = items_of (entries ps)
items _ = None

abbrev pub or_fault : {A : Type 0} → FaultCode → Place → Option A → Outcome A
or_fault code p (Some x) = Ok x
or_fault code p None = fault code p

abbrev pub as_sequence : Place → Tree → Outcome (List Tree)
as_sequence p t = or_fault WrongKind p (items t)

-- ---- limits of new values: first the number of members or pairs, then the nesting
abbrev pub within : Place → ℕ → ℕ → Tree → Outcome Tree
within p count depth t =
    if nat_lt MAX_ELEMENTS count then fault TooMany p
    else (if nat_lt (MAX_NESTING - 1) depth then fault TooDeep p else Ok t)

-- the greater of the number of functions and the most pairs of one; it must be within the limit on elements
abbrev pub size_of_functions : List Tree → ℕ
size_of_functions ts = max (length ts) (most_pairs ts)

-- the set with these rising members, where `size` is the greatest number of members or pairs in it
abbrev pub sized_set : Place → ℕ → List Tree → Outcome Tree
sized_set p size ts = within p size (deepest (trees ts)) (set (trees ts))

abbrev pub rising_set : Place → List Tree → Outcome Tree
rising_set p ts = sized_set p (length ts) ts

-- the set of some functions
abbrev pub make_function_set : Place → List Tree → Outcome Tree
make_function_set p ts = sized_set p (size_of_functions (set_of ts)) (set_of ts)

-- the set of some values
abbrev pub make_set : Place → List Tree → Outcome Tree
make_set p ts = rising_set p (set_of ts)

-- the function of rising pairs, and of any pairs: of two with the same argument the first counts
abbrev pub rising_fun : Place → List (Tree × Tree) → Outcome Tree
rising_fun p ps = within p (length ps) (deepest_pair (pairs ps)) (fun (pairs ps))

abbrev pub make_fun : Place → List (Tree × Tree) → Outcome Tree
make_fun p ps = rising_fun p (fun_of ps)

abbrev pub make_sequence : Place → List Tree → Outcome Tree
make_sequence p ts = rising_fun p (numbered 1 ts)

-- a number of 64 bits
abbrev pub is_in_range : ℤ → Bool
is_in_range z = int_le (negsuc 9223372036854775807) z && int_le z (pos 9223372036854775807)

abbrev pub number : Place → ℤ → Outcome Tree
number p z = if is_in_range z then Ok (int z) else fault Overflow p
