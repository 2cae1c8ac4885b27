-- What an expression means: its value, and which values are its members. The meaning of a form is built from those of
-- its parts. (Book, chapter 16; faults, and what is left unevaluated, are this project's own choice.)
use Rattle.std.specs.Prelude.{ℕ, Bool, true, false, ◌||◌, List, get_or, zip, Option, Some, None, Ok, slice_get}
use Rattle.std.specs.List.{list_any}
use Rattle.std.specs.Coded.{Coded, coded_list, coded_option}
use Rattle.tla_value.specs.Tree.{Tree, truth}
use Rattle.tla_value.specs.Stored.{coded_tree}
use Rattle.tla_value.specs.Order.{tree_eq}
use Rattle.tla_value.specs.Sets.{is_member}
use Rattle.tla_value.specs.Choices.{keys_of, parts_of}
use Rattle.tla_core.specs.Fault.{Place, NotSet, Outcome, ◌>>=◌, fault}
use Rattle.tla_core.specs.Expr.{Unary, Binary}
use Rattle.tla_core.specs.Kinds.{as_truth, as_set, make_set, make_fun, make_sequence}
use Rattle.tla_core.specs.Operators.{unary_rule, binary_rule, sub_seq_rule}
use Rattle.tla_core.specs.Lists.{each}

-- the values of the bound names, the outermost first
abbrev pub Bound : Type 0
Bound = List Tree

-- the present state, if there is one; the next value of each variable, if it is set
abbrev pub Present : Type 0
Present = Option (List Tree)

abbrev pub Next : Type 0
Next = List (Option Tree)

-- an encoding of such lists, for proofs that compare two
abbrev pub coded_next : Coded Next
coded_next = coded_list (coded_option coded_tree)

pub record Meaning : Type 0 where
  pub place : Place
  -- whether the next value of a variable occurs in it
  pub primed : Bool
  pub value : Bound → Present → Next → Outcome Tree
  pub has : Tree → Bound → Present → Next → Outcome Bool

-- ---- parts

-- whether a part is TRUE; another value is a fault of the node
abbrev pub asks : Place → Meaning → Bound → Present → Next → Outcome Bool
asks p m b s t = do
  v ← m.value b s t
  as_truth p v

-- the members of a part that is a set
abbrev pub elements : Place → Meaning → Bound → Present → Next → Outcome (List Tree)
elements p m b s t = do
  v ← m.value b s t
  as_set p v

abbrev pub as_tree : Outcome Bool → Outcome Tree
as_tree r = do
  holds ← r
  Ok (truth holds)

abbrev pub any_primed : List Meaning → Bool
any_primed ms = list_any (λ (m : Meaning). m.primed) ms

-- a form whose members are those of its value
abbrev pub by_value : Place → Bool → (Bound → Present → Next → Outcome Tree) → Meaning
by_value p primed value = record {
  place = p;
  primed = primed;
  value = value;
  has = λ v b s t. (do
    x ← value b s t
    xs ← as_set p x
    Ok (is_member v xs));
}

-- ---- leaves
abbrev pub means-constant : Place → Tree → Meaning
means-constant p v = by_value p false (λ b s t. Ok v)

-- A name that doesn't exist has the value FALSE, so that the function is total; the requirements of callers exclude it.
abbrev pub means-bound : Place → ℕ → Meaning
means-bound p i = by_value p false (λ b s t. Ok (get_or b i (truth false)))

abbrev pub variable_of : Present → ℕ → Tree
variable_of None i = truth false
variable_of (Some vs) i = get_or vs i (truth false)

abbrev pub means-now : Place → ℕ → Meaning
means-now p i = by_value p false (λ b s t. Ok (variable_of s i))

abbrev pub if_set : Place → Option (Option Tree) → Outcome Tree
if_set p (Some (Some v)) = Ok v
if_set p _ = fault NotSet p

abbrev pub means-next : Place → ℕ → Meaning
means-next p i = by_value p true (λ b s t. if_set p (slice_get t i))

-- ---- operators whose operands are all evaluated, from left to right
abbrev pub means-unary : Place → Unary → Meaning → Meaning
means-unary p op a = by_value p a.primed (λ b s t. do
  x ← a.value b s t
  unary_rule op p x)

abbrev pub of_two : Place → (Tree → Tree → Outcome Tree) → Meaning → Meaning → Meaning
of_two p rule a c = by_value p (a.primed || c.primed) (λ b s t. do
  x ← a.value b s t
  y ← c.value b s t
  rule x y)

abbrev pub means-binary : Place → Binary → Meaning → Meaning → Meaning
means-binary p op a c = of_two p (binary_rule op p) a c

abbrev pub means-equal : Place → Meaning → Meaning → Meaning
means-equal p a c = of_two p (λ x y. Ok (truth (tree_eq x y))) a c

abbrev pub means-sub_seq : Place → Meaning → Meaning → Meaning → Meaning
means-sub_seq p a c d = by_value p (a.primed || (c.primed || d.primed)) (λ b s t. do
  x ← a.value b s t
  y ← c.value b s t
  z ← d.value b s t
  sub_seq_rule p x y z)

abbrev pub of_each : Place → (List Tree → Outcome Tree) → List Meaning → Meaning
of_each p rule ms = by_value p (any_primed ms) (λ b s t. do
  vs ← each (λ (m : Meaning). m.value b s t) ms
  rule vs)

abbrev pub means-enumerated : Place → List Meaning → Meaning
means-enumerated p ms = of_each p (make_set p) ms

abbrev pub means-tuple : Place → List Meaning → Meaning
means-tuple p ms = of_each p (make_sequence p) ms

abbrev pub means-record_of : Place → List (List ℕ × Meaning) → Meaning
means-record_of p fs = of_each p (λ vs. make_fun p (zip (keys_of fs) vs)) (parts_of fs)
