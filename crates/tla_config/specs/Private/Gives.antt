-- What the answer of a reader of tokens says. Private contracts alone cite this.
use Rattle.std.specs.Prelude.{◌≡◌, ◌≤◌, ◌⊎◌, ℕ, ◌+◌, List, Option, Some, None, Result, Ok, Err, length, filter}
use Rattle.tla_lex.specs.Bytes.{Bytes}
use Rattle.tla_lex.specs.declared.token.Kind.TheVariants as k
use Rattle.tla_lex.specs.declared.token.Token.{Token}
use Rattle.tla_tree.specs.declared.word.Written.{Written}
use Rattle.tla_config.specs.declared.names.ParsedNames.{ParsedNames}
use Rattle.tla_config.specs.declared.refusal.Refusal.{Refusal}
use Rattle.tla_config.specs.declared.refusal.Refusal.TheVariants as refusal
use Rattle.tla_config.specs.declared.statements.ParsedStatement.{ParsedStatement}
use Rattle.tla_config.specs.Configuration.{Has, IsName, Names, SpellsStatement, SpellsStatements, is_check_deadlock}
use Rattle.tla_config.specs.Refusals.{Begins, IsLeftOutWord, IsLeftOutItem, IsTooLargeItem, ItemsUpTo, FollowsStatements}
use Rattle.tla_config.specs.Statements.{Item, Statement}
use Rattle.tla_config.specs.View.{statement_view}

-- why a parser refuses: at the token of a refusal something is left out, or too large, or else the token isn't allowed
abbrev pub Because : Refusal → (ℕ → Type 0) → (ℕ → Type 0) → Type 0 → Type 0
Because (refusal.Unexpected at) left large plain = plain
Because (refusal.LeftOut at) left large plain = left at
Because (refusal.TooLarge at) left large plain = large at
Because refusal.NoMemory left large plain = Unit {0}

abbrev pub Nowhere : ℕ → Type 0
Nowhere at = ⊥

-- neither of these causes is at any token
pub record Neither (left large : ℕ → Type 0) : Type 0 where
  pub no_left : (at : ℕ) → left at → ⊥
  pub no_large : (at : ℕ) → large at → ⊥

-- nothing is said
abbrev pub Anything : Type 0
Anything = Unit {0}

module _ (text : Bytes) (ts : List Token) where
  -- a list of names does not go on here
  pub record Ends (at : ℕ) : Type 0 where
    pub no_comma : Has text ts k.Comma at → ⊥
    pub no_name : (w : Written) → IsName text ts w at → ⊥

  -- where the next name of a list has to be, after this token, if the list continues
  abbrev pub GoesOn : ℕ → Option ℕ → Type 0
  GoesOn at None = Ends at
  GoesOn at (Some next) = (Has text ts k.Comma at × (next ≡ at + 1)) ⊎ (((w : Written) × IsName text ts w at) × (next ≡ at))

  -- a refusal says that something is not there; that memory ran out says nothing
  abbrev pub Fails : Refusal → Type 0 → Type 0
  Fails (refusal.Unexpected at) p = p
  Fails (refusal.LeftOut at) p = p
  Fails (refusal.TooLarge at) p = p
  Fails refusal.NoMemory p = Unit {0}

  abbrev pub GivesName : ℕ → Result Written Refusal → Type 0
  GivesName at (Ok w) = IsName text ts w at
  GivesName at (Err r) = Fails r ((w : Written) → IsName text ts w at → ⊥)

  -- the names there, and no others that end where a list doesn't continue
  pub record AreNames (ws : List Written) (from to : ℕ) : Type 0 where
    pub spelled : Names text ts ws from to
    pub only : (vs : List Written) (end : ℕ) → Names text ts vs from end → Ends end → (vs ≡ ws) × (end ≡ to)

  abbrev pub NoNames : ℕ → Type 0
  NoNames from = (ws : List Written) (to : ℕ) → Names text ts ws from to → Ends to → ⊥

  abbrev pub GivesNames : ℕ → Result ParsedNames Refusal → Type 0
  GivesNames from (Ok x) = AreNames x.names.items from x.end
  GivesNames from (Err r) = Fails r (NoNames from)

  pub record IsStatement (c : Statement) (from to : ℕ) : Type 0 where
    pub spelled : SpellsStatement text ts c from to
    pub only : (d : Statement) (end : ℕ) → SpellsStatement text ts d from end → Ends end → (d ≡ c) × (end ≡ to)

  abbrev pub NoStatement : ℕ → Type 0
  NoStatement from = (c : Statement) (to : ℕ) → SpellsStatement text ts c from to → Ends to → ⊥

  abbrev pub GivesStatement : ℕ → Result ParsedStatement Refusal → Type 0
  GivesStatement from (Ok x) = IsStatement (statement_view x.statement) from x.end
  GivesStatement from (Err r) = Fails r (NoStatement from)

  -- the statements of all tokens, one CHECK_DEADLOCK among them at most
  pub record AreStatements (cs : List Statement) : Type 0 where
    pub spelled : SpellsStatements text ts cs 0
    pub once : length (filter is_check_deadlock cs) ≤ 1
    pub only : (ds : List Statement) → SpellsStatements text ts ds 0 → ds ≡ cs

  abbrev pub NoStatements : Type 0
  NoStatements = (cs : List Statement) → SpellsStatements text ts cs 0 → length (filter is_check_deadlock cs) ≤ 1 → ⊥

  -- in the item that begins at a token a replacement is left out, whose bracket is at another; or the item is too large
  abbrev pub LeftOutHere : ℕ → ℕ → Type 0
  LeftOutHere item at = IsLeftOutItem text ts item × (at ≡ item + 2)

  abbrev pub TooLargeHere : ℕ → ℕ → Type 0
  TooLargeHere item at = IsTooLargeItem text ts item × (at ≡ item)

  -- neither is in it
  abbrev pub ClearItem : ℕ → Type 0
  ClearItem at = Neither (LeftOutHere at) (TooLargeHere at)

  -- after items a replacement is left out, whose bracket is at a token; or an item is too large
  abbrev pub LeftOutAfter : ℕ → ℕ → Type 0
  LeftOutAfter from at = (item : ℕ) × ((is : List Item) × ItemsUpTo text ts is from item) × IsLeftOutItem text ts item × (at ≡ item + 2)

  abbrev pub TooLargeAfter : ℕ → ℕ → Type 0
  TooLargeAfter from at = ((is : List Item) × ItemsUpTo text ts is from at) × IsTooLargeItem text ts at

  -- neither is after items from a token on
  abbrev pub ClearItems : ℕ → Type 0
  ClearItems from = Neither (LeftOutAfter from) (TooLargeAfter from)

  -- in the statement that begins at a token
  abbrev pub LeftOutIn : ℕ → ℕ → Type 0
  LeftOutIn begin at = (IsLeftOutWord text ts begin × (at ≡ begin)) ⊎ (Has text ts k.Constant begin × LeftOutAfter (begin + 1) at)

  abbrev pub TooLargeIn : ℕ → ℕ → Type 0
  TooLargeIn begin at = Has text ts k.Constant begin × TooLargeAfter (begin + 1) at

  -- neither is in it
  abbrev pub ClearStatement : ℕ → Type 0
  ClearStatement begin = Neither (LeftOutIn begin) (TooLargeIn begin)

  -- after statements
  abbrev pub LeftOutAt : ℕ → Type 0
  LeftOutAt at = (begin : ℕ) × FollowsStatements text ts begin × LeftOutIn begin at

  abbrev pub TooLargeAt : ℕ → Type 0
  TooLargeAt at = (begin : ℕ) × FollowsStatements text ts begin × TooLargeIn begin at

  -- neither is after statements
  abbrev pub Clear : Type 0
  Clear = Neither LeftOutAt TooLargeAt

  -- the text begins with no other tokens
  abbrev pub OnlyBegins : Type 0
  OnlyBegins = (us : List Token) → Begins text us → us ≡ ts
