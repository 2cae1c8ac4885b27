-- What a refusal of a configuration says (this project's own choice).
use Rattle.std.specs.Prelude.{◌≡◌, ◌≤◌, ◌⊎◌, ℕ, ◌+◌, Bool, true, false, IsTrue, is_some, List, [], ◌∷◌, Option, Some, None, length, slice_get, filter, codes}
use Rattle.std.specs.Str.{IsUtf8}
use Rattle.tla_lex.specs.Bytes.{Bytes}
use Rattle.tla_lex.specs.Reads.{Reads}
use Rattle.tla_lex.specs.declared.lexeme.Source.TheVariants as source
use Rattle.tla_lex.specs.declared.scan.Stop.{Stop}
use Rattle.tla_lex.specs.declared.token.Kind.TheVariants as k
use Rattle.tla_lex.specs.declared.token.Place.{Place}
use Rattle.tla_lex.specs.declared.token.Token.{Token}
use Rattle.tla_tree.specs.Words.{word_of}
use Rattle.tla_tree.specs.declared.word.Written.{Written}
use Rattle.tla_config.specs.declared.error.DefsCode.{DefsCode}
use Rattle.tla_config.specs.declared.error.DefsCode.TheVariants as code
use Rattle.tla_config.specs.Beyond.{IsWrittenBeyond}
use Rattle.tla_config.specs.Configuration.{Has, IsName, SpellsItem, StatementsUpTo, is_check_deadlock}
use Rattle.tla_config.specs.Names.{Name, is_among}
use Rattle.tla_config.specs.Statements.{Item, Statement}

-- the words of the statements that are left out
abbrev pub left_out_words : List Name
left_out_words =
    codes "PROPERTY" ∷ codes "PROPERTIES" ∷ codes "SYMMETRY"
    ∷ codes "VIEW" ∷ codes "ACTION_CONSTRAINT" ∷ codes "ACTION_CONSTRAINTS"
    ∷ codes "ALIAS" ∷ codes "POSTCONDITION" ∷ []

module _ (text : Bytes) (ts : List Token) where
  -- such a word is here
  abbrev pub IsLeftOutWord : ℕ → Type 0
  IsLeftOutWord at = (t : Token) × (slice_get ts at ≡ Some t) × (t.kind ≡ k.Name) × IsTrue (is_among (word_of text t) left_out_words)

  -- `c <- [` begins here, as a replacement in another module does, which is left out too
  abbrev pub IsLeftOutItem : ℕ → Type 0
  IsLeftOutItem at = ((c : Written) × IsName text ts c at) × Has text ts k.Substitute (at + 1) × Has text ts k.LeftBracket (at + 2)

  -- `c = value` is here, with a value beyond the limits
  abbrev pub IsTooLargeItem : ℕ → Type 0
  IsTooLargeItem at = ((c : Written) × IsName text ts c at) × Has text ts k.Equal (at + 1) × IsWrittenBeyond text ts (at + 2)

  -- items between two tokens, each with or without a comma after it
  abbrev pub ItemsUpTo : List Item → ℕ → ℕ → Type 0
  ItemsUpTo [] from to = from ≡ to
  ItemsUpTo (i ∷ is) from to = (mid : ℕ) × SpellsItem text ts i from mid × (at : ℕ) × ((at ≡ mid) ⊎ (Has text ts k.Comma mid × (at ≡ mid + 1))) × ItemsUpTo is at to

  -- statements come before this token, CHECK_DEADLOCK at most once among them
  pub record FollowsStatements (at : ℕ) : Type 0 where
    pub statements : List Statement
    pub spelled : StatementsUpTo text ts statements 0 at
    pub once : length (filter is_check_deadlock statements) ≤ 1

  -- statements come before this token, then CONSTANT and items
  pub record FollowsItems (at : ℕ) : Type 0 where
    pub begin : ℕ
    pub statements : FollowsStatements begin
    pub constant : Has text ts k.Constant begin
    pub items : List Item
    pub spelled : ItemsUpTo items (begin + 1) at

-- the tokens are those of a configuration up to its end or first fault
pub record Begins (text : Bytes) (ts : List Token) : Type 0 where
  pub utf8 : IsUtf8 text
  pub stop : Stop
  pub reads : Reads source.Configuration text 0 ts stop

abbrev pub StandsAt : List Token → ℕ → Place → Type 0
StandsAt ts at p = (t : Token) × (slice_get ts at ≡ Some t) × (t.place ≡ p)

-- after statements the text has the word of a statement that is left out
pub record HasLeftOutWord (text : Bytes) (p : Place) (word : Name) : Type 0 where
  pub tokens : List Token
  pub begins : Begins text tokens
  pub at : ℕ
  pub follows : FollowsStatements text tokens at
  pub is : IsLeftOutWord text tokens at
  pub place : is.0.place ≡ p
  pub name : word_of text is.0 ≡ word

-- after statements, CONSTANT and items it has `c <- [`, with the bracket at this place
pub record HasLeftOutItem (text : Bytes) (p : Place) : Type 0 where
  pub tokens : List Token
  pub begins : Begins text tokens
  pub at : ℕ
  pub follows : FollowsItems text tokens at
  pub is : IsLeftOutItem text tokens at
  pub place : StandsAt tokens (at + 2) p

-- after them it has an item with a value beyond the limits, at this place
pub record HasTooLargeItem (text : Bytes) (p : Place) : Type 0 where
  pub tokens : List Token
  pub begins : Begins text tokens
  pub at : ℕ
  pub follows : FollowsItems text tokens at
  pub is : IsTooLargeItem text tokens at
  pub place : StandsAt tokens at p

-- after statements nothing is left out, and no value of an item is beyond the limits
pub record HasNeither (text : Bytes) : Type 0 where
  pub no_word : (p : Place) (word : Name) → HasLeftOutWord text p word → ⊥
  pub no_item : (p : Place) → HasLeftOutItem text p → ⊥
  pub no_value : (p : Place) → HasTooLargeItem text p → ⊥

-- the codes that print a name
abbrev pub has_name : DefsCode → Bool
has_name code.UnknownName = true
has_name code.DefinedTwice = true
has_name code.ArgumentCount = true
has_name code.ConstantWithoutValue = true
has_name code.CircularReplacement = true
has_name code.StatementLeftOut = true
has_name _ = false

-- Each code but that of memory has a place, and each code that prints a name has one.
abbrev pub IsLocated : DefsCode → Option Place → Option Name → Type 0
IsLocated code.Memory None None = Unit {0}
IsLocated code.Memory _ _ = ⊥
IsLocated c None name = ⊥
IsLocated c (Some p) name = is_some name ≡ has_name c

-- What a refusal says of a configuration's text. C10: after statements, a statement or an item begins that is left out;
-- it has its word or `[`. C11: such an item has a value beyond the limits. C1: after statements there is neither. The
-- place of C1 is not defined here.
abbrev pub Explains : Bytes → DefsCode → Option Place → Option Name → Type 0
Explains text code.ConfigurationText p name = HasNeither text
Explains text code.ExpansionTooLarge (Some p) name = HasTooLargeItem text p
Explains text code.StatementLeftOut (Some p) (Some word) = HasLeftOutWord text p word ⊎ (HasLeftOutItem text p × (word ≡ codes "["))
Explains text code.Memory p name = Unit {0}
Explains text _ _ _ = ⊥
