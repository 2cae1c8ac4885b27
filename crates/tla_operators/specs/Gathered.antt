-- A collection of the distinct ones of values that arrive one by one, up to more than a set may have.
use Rattle.std.specs.Prelude.{◌≡◌, ◌⊎◌, ℕ, ◌<◌, ◌≤◌, ◌*◌, min, max, true, false, List, ◌++◌, length, map, Result, Ok, Err}
use Rattle.tla_value.specs.Tree.{Tree}
use Rattle.tla_value.specs.TreeOf.{tree_of}
use Rattle.tla_value.specs.Sets.{set_of}
use Rattle.tla_value.specs.declared.set.TheConstants.{MAX_ELEMENTS}
use Rattle.tla_core.specs.declared.fault.Fault.{Fault}
use Rattle.tla_core.specs.declared.fault.Place.{Place}
use Rattle.tla_core.specs.Fault.{Outcome, ◌>>=◌, out_of_memory}
use Rattle.tla_core.specs.Kinds.{make_set}
use Rattle.tla_operators.specs.declared.gathered.Gathered.{Gathered}

-- the number of distinct trees in a list
abbrev pub different : List Tree → ℕ
different ts = length (set_of ts)

-- two lists have the same set, or each has more distinct members than a set may have
abbrev pub MakeSameSet : List Tree → List Tree → Type 0
MakeSameSet us ts = (set_of us ≡ set_of ts) ⊎ ((MAX_ELEMENTS < different us) × (MAX_ELEMENTS < different ts))

-- the most values that are held: 1024, or twice as many as the set has
abbrev pub most_held : List Tree → ℕ
most_held ts = max 1024 (2 * min MAX_ELEMENTS (different ts))

-- the values `us` are held of the values `ts` that arrived
pub record IsHeld (ts us : List Tree) : Type 0 where
  pub same : MakeSameSet us ts
  pub few : length us ≤ most_held ts

-- the same, with the room for more; the collection is full only if more can't change the result
pub record IsGathered (ts : List Tree) (g : Gathered) : Type 0 where
  pub held : IsHeld ts (map tree_of g.values.items)
  pub full : g.is_full ≡ true → MAX_ELEMENTS < different (map tree_of g.values.items)
  pub free : g.is_full ≡ false → (length g.values.items < g.room) × (g.room ≤ most_held ts)

-- the values `us` arrived after earlier ones
abbrev pub Adds : List Tree → Gathered → Gathered → Type 0
Adds us old new = (ts : List Tree) → IsGathered ts old → IsGathered (ts ++ us) new

-- the collection of the values of an outcome, or its fault
abbrev pub Gathers : Result Gathered Fault → Outcome (List Tree) → Type 0
Gathers (Ok g) o = (ts : List Tree) × (o ≡ Ok ts) × IsGathered ts g
Gathers (Err f) o = (f ≡ out_of_memory) ⊎ (o ≡ Err f)

-- the set of the values of an outcome
abbrev pub set_rule : Place → Outcome (List Tree) → Outcome Tree
set_rule p o = do
  ts ← o
  make_set p ts

-- some values, followed by those of an outcome
abbrev pub then_more : List Tree → Outcome (List Tree) → Outcome (List Tree)
then_more kept o = do
  ys ← o
  Ok (kept ++ ys)
