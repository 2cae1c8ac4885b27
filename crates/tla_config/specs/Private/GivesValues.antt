-- What the answer of a reader of values says. Private contracts alone cite this.
use Rattle.std.specs.Prelude.{◌≡◌, ◌≤◌, ℕ, ◌+◌, List, Some, None, Result, Ok, Err, map}
use Rattle.tla_lex.specs.Bytes.{Bytes}
use Rattle.tla_lex.specs.declared.token.Token.{Token}
use Rattle.tla_value.specs.IsValue.{IsValue}
use Rattle.tla_value.specs.Sets.{set_of}
use Rattle.tla_value.specs.Tree.{Tree, set, trees, depth}
use Rattle.tla_value.specs.TreeOf.{tree_of}
use Rattle.tla_value.specs.declared.value.Value.{Value}
use Rattle.tla_config.specs.declared.items.ParsedItem.{ParsedItem}
use Rattle.tla_config.specs.declared.items.ParsedItems.{ParsedItems}
use Rattle.tla_config.specs.declared.refusal.Refusal.{Refusal}
use Rattle.tla_config.specs.declared.values.ParsedValue.{ParsedValue}
use Rattle.tla_config.specs.Beyond.{IsWrittenBeyond}
use Rattle.tla_config.specs.Private.Beyond.{IsBeyond}
use Rattle.tla_config.specs.Configuration.{SpellsLiteral, SpellsItem, Items}
use Rattle.tla_config.specs.Private.Gives.{Ends, Fails}
use Rattle.tla_config.specs.Literals.{Literal, value_of, atom_of}
use Rattle.tla_config.specs.Statements.{Item}
use Rattle.tla_config.specs.View.{item_view}

-- the token writes no value by itself
abbrev pub WritesNone : Bytes → Token → Type 0
WritesNone text t = atom_of text t ≡ None

-- the value that the token writes by itself is beyond the limits
abbrev pub AtomBeyond : Bytes → Token → Type 0
AtomBeyond text t = (v : Tree) × (atom_of text t ≡ Some v) × (IsValue v → ⊥)

module _ (text : Bytes) (ts : List Token) where
  -- the answer of a set's members, or a refusal
  abbrev pub GivesSet : List Tree → Result Value Refusal → Type 0
  GivesSet vs (Ok v) = (tree_of v ≡ set (trees (set_of vs))) × IsValue (tree_of v)
  GivesSet vs (Err r) = Fails text ts r (IsValue (set (trees (set_of vs))) → ⊥)

  -- the value that a token writes by itself
  abbrev pub GivesAtom : Token → Result Value Refusal → Type 0
  GivesAtom t (Ok v) = (atom_of text t ≡ Some (tree_of v)) × IsValue (tree_of v)
  GivesAtom t (Err r) = Fails text ts r ((v : Tree) → atom_of text t ≡ Some v → IsValue v → ⊥)

  -- a value that is written here, within the limits of values
  pub record IsValueAt (v : Tree) (from to : ℕ) : Type 0 where
    pub literal : Literal
    pub spelled : SpellsLiteral text ts literal from to
    pub meaning : value_of literal ≡ v
    pub is_value : IsValue v

  -- no value that is nested so deep at most
  abbrev pub NoValue : ℕ → ℕ → Type 0
  NoValue room from = (l : Literal) (to : ℕ) → SpellsLiteral text ts l from to → IsValue (value_of l) → depth (value_of l) ≤ room → ⊥

  abbrev pub GivesValue : ℕ → ℕ → Result ParsedValue Refusal → Type 0
  GivesValue room from (Ok x) = IsValueAt (tree_of x.value) from x.end
  GivesValue room from (Err r) = Fails text ts r (NoValue room from)

  abbrev pub NoItem : ℕ → Type 0
  NoItem from = (i : Item) (to : ℕ) → SpellsItem text ts i from to → ⊥

  abbrev pub GivesItem : ℕ → Result ParsedItem Refusal → Type 0
  GivesItem from (Ok x) = SpellsItem text ts (item_view x.item) from x.end
  GivesItem from (Err r) = Fails text ts r (NoItem from)

  -- the items there, and no others that end where a list doesn't continue
  pub record AreItems (is : List Item) (from to : ℕ) : Type 0 where
    pub spelled : Items text ts is from to
    pub only : (js : List Item) (end : ℕ) → Items text ts js from end → Ends text ts end → (js ≡ is) × (end ≡ to)

  abbrev pub NoItems : ℕ → Type 0
  NoItems from = (is : List Item) (to : ℕ) → Items text ts is from to → Ends text ts to → ⊥

  abbrev pub GivesItems : ℕ → Result ParsedItems Refusal → Type 0
  GivesItems from (Ok x) = AreItems (map item_view x.items.items) from x.end
  GivesItems from (Err r) = Fails text ts r (NoItems from)

  -- the value that begins here is beyond the limits, in the item of this number
  abbrev pub BeyondIn : ℕ → ℕ → ℕ → ℕ → Type 0
  BeyondIn item room from at = (at ≡ item) × IsBeyond text ts room from

  -- the value of the item of this number is written whole, and is beyond the limits
  abbrev pub TooLargeValue : ℕ → ℕ → Type 0
  TooLargeValue item at = (at ≡ item) × IsWrittenBeyond text ts (item + 2)

  -- no value is written here, and none that is beyond the limits begins here
  pub record IsUnwritten (room from : ℕ) : Type 0 where
    pub no_literal : (l : Literal) (to : ℕ) → SpellsLiteral text ts l from to → ⊥
    pub within : IsBeyond text ts room from → ⊥
