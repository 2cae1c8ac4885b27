-- The contents of a set or a function: none if it is empty, else shared members, or arguments and values.
use Rattle.std.specs.Prelude.{◌≡◌, ℕ, ◌<◌, List, [], length, map, zip, Option, None, Some}
use Rattle.std.specs.Arc.{arc_value}
use Rattle.std.specs.declared.sync.Arc.{Arc}
use Rattle.std.specs.declared.alloc.Global.{Global}
use Rattle.tla_value.specs.Tree.{Tree, trees, pairs}
use Rattle.tla_value.specs.TreeOf.{tree_of}
use Rattle.tla_value.specs.Choices.{counted_up}
use Rattle.tla_value.specs.TreeHash.{word_of, trees_writes, pairs_writes}
use Rattle.tla_value.specs.IsValue.{AreValues, FitNumbers, IsSetValue, IsFunValue}
use Rattle.tla_value.specs.Private.Inner.{with_value_at}
use Rattle.tla_value.specs.declared.value.Value.{Value}
use Rattle.tla_value.specs.declared.value.Members.{Members}
use Rattle.tla_value.specs.declared.value.Domain.{Domain}
use Rattle.tla_value.specs.declared.value.Domain.TheVariants.{Numbers, Listed}
use Rattle.tla_value.specs.declared.value.Entries.{Entries}

abbrev pub held_items : Option (Arc Members Global) → List Value
held_items None = []
held_items (Some held) = (arc_value held).items.items

abbrev pub set_nesting : Option (Arc Members Global) → ℕ
set_nesting None = 1
set_nesting (Some held) = (arc_value held).nesting

abbrev pub set_hash : Option (Arc Members Global) → ℕ
set_hash None = word_of []
set_hash (Some held) = (arc_value held).hash

-- the arguments of a domain of n
abbrev pub domain_trees : ℕ → Domain → List Tree
domain_trees n (Numbers z) = counted_up n z
domain_trees n (Listed ts) = ts

-- numbers of 64 bits, at least one, or a set of n values
abbrev pub FitsDomain : ℕ → Domain → Type 0
FitsDomain n (Numbers z) = (0 < n) × FitNumbers n z
FitsDomain n (Listed ts) = length ts ≡ n

-- each argument with its value
abbrev pub entry_pairs : Domain → List Value → List (Tree × Tree)
entry_pairs d vs = zip (domain_trees (length vs) d) (map tree_of vs)

-- the same with the value at an index replaced
abbrev pub changed_pairs : Entries → ℕ → Value → List (Tree × Tree)
changed_pairs e i v = with_value_at (entry_pairs e.domain e.values.items) i (tree_of v)

abbrev pub held_pairs : Option (Arc Entries Global) → List (Tree × Tree)
held_pairs None = []
held_pairs (Some held) = entry_pairs (arc_value held).domain (arc_value held).values.items

abbrev pub FitsHeld : Option (Arc Entries Global) → Type 0
FitsHeld None = Unit {0}
FitsHeld (Some held) = FitsDomain (length (arc_value held).values.items) (arc_value held).domain

abbrev pub fun_nesting : Option (Arc Entries Global) → ℕ
fun_nesting None = 1
fun_nesting (Some held) = (arc_value held).nesting

abbrev pub fun_hash : Option (Arc Entries Global) → ℕ
fun_hash None = word_of []
fun_hash (Some held) = (arc_value held).hash

-- the members of a set, with the nesting and the hash that are stored with them; likewise for a function
pub record IsHeldSet (ts : List Tree) (nesting hash : ℕ) : Type 0 where
  pub shape : IsSetValue ts nesting
  pub hashed : hash ≡ word_of (trees_writes (trees ts))

pub record IsHeldFun (held : Option (Arc Entries Global)) : Type 0 where
  pub fits : FitsHeld held
  pub shape : IsFunValue (held_pairs held) (fun_nesting held)
  pub hashed : fun_hash held ≡ word_of (pairs_writes (pairs (held_pairs held)))

-- the values of a state, with the hash that is stored with them
pub record IsHeldState (ts : List Tree) (hash : ℕ) : Type 0 where
  pub are : AreValues (trees ts)
  pub hashed : hash ≡ word_of (trees_writes (trees ts))
