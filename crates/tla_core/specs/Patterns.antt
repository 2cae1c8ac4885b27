-- Tuple patterns: an element of a set is replaced by its items, if it is a sequence of the pattern's length. (Book,
-- chapter 16; the faults are this project's own choice.)
use Rattle.std.specs.Prelude.{ℕ, ◌+◌, false, nat_eq, if◌then◌else◌, List, [], ◌∷◌, ◌++◌, length, get_or, Option, Some, None, Ok}
use Rattle.tla_value.specs.Tree.{Tree, truth, int, text, model, set, fun, members}
use Rattle.tla_core.specs.Fault.{Place, WrongKind, Outcome, ◌>>=◌}
use Rattle.tla_core.specs.Kinds.{or_fault, items}
use Rattle.tla_core.specs.Lists.{each}
use Rattle.tla_core.specs.Meaning.{Meaning, Bound, by_value}
use Rattle.tla_core.specs.declared.expression.Opening.{Opening}

abbrev pub of_length : ℕ → Option (List Tree) → Option (List Tree)
of_length k None = None
of_length k (Some vs) = if nat_eq (length vs) k then Some vs else None

-- the items of an element that fits a pattern of n names; any other element is a fault of the form that binds
abbrev pub fitting : Place → ℕ → Tree → Outcome (List Tree)
fitting p k v = or_fault WrongKind p (of_length k (items v))

-- how many names the patterns have
abbrev pub items_in : List Opening → ℕ
items_in [] = 0
items_in (o ∷ os) = o.items + items_in os

-- the items of the elements of these bound names, concatenated
abbrev pub opened_items : Place → List Opening → Bound → Outcome (List Tree)
opened_items p [] b = Ok []
opened_items p (o ∷ os) b = do
  xs ← fitting p o.items (get_or b o.name (truth false))
  ys ← opened_items p os b
  Ok (xs ++ ys)

-- a body under the names of patterns, which come after all others
abbrev pub means-opened : Place → List Opening → Meaning → Meaning
means-opened p os e = by_value p e.primed (λ b s t. do
  xs ← opened_items p os b
  e.value (b ++ xs) s t)

-- a set whose elements fit the pattern. Any other value passes: the form that binds faults.
abbrev pub tried_set : Place → ℕ → Tree → Outcome Tree
tried_set p k (set vs) = do
  xss ← each (fitting p k) (members vs)
  Ok (set vs)
tried_set p k (truth x) = Ok (truth x)
tried_set p k (int z) = Ok (int z)
tried_set p k (text x) = Ok (text x)
tried_set p k (model x) = Ok (model x)
tried_set p k (fun ps) = Ok (fun ps)

-- a set whose elements are all checked right after its evaluation
abbrev pub means-tried : Place → ℕ → Meaning → Meaning
means-tried p k a = by_value p a.primed (λ b s t. do
  v ← a.value b s t
  tried_set p k v)
