-- Where a value that is written ends, found from the left. Private contracts alone cite this.
use Rattle.std.specs.Prelude.{◌≡◌, ℕ, zero, suc, Bool, true, false, not, ◌&&◌, List, Option, Some, None}
use Rattle.tla_lex.specs.Bytes.{Bytes}
use Rattle.tla_lex.specs.declared.token.Kind.{Kind}
use Rattle.tla_lex.specs.declared.token.Kind.TheVariants as k
use Rattle.tla_lex.specs.declared.token.Token.{Token}
use Rattle.tla_tree.specs.Words.{word_of}
use Rattle.tla_config.specs.declared.keyword.Keyword.{Keyword}
use Rattle.tla_config.specs.Configuration.{SpellsLiteral, SpellsMembers}
use Rattle.tla_config.specs.Literals.{Literal, Literals}
use Rattle.tla_config.specs.Private.Fronts.{kind_at}
use Rattle.tla_config.specs.Private.Keywords.{keywords, lookup}

abbrev pub is_free : Option Keyword → Bool
is_free None = true
is_free (Some word) = false

abbrev pub writes_by : Bytes → Token → Kind → Bool
writes_by text t k.True = true
writes_by text t k.False = true
writes_by text t k.Digits = true
writes_by text t k.Text = true
writes_by text t k.Name = is_free (lookup keywords (word_of text t))
writes_by text t _ = false

-- the token writes a value by itself
abbrev pub writes_value : Bytes → Token → Bool
writes_value text t = writes_by text t t.kind

-- a set opens that has a member: these are its brace and the next token
abbrev pub opens_members : Option Token → Option Token → Bool
opens_members brace next = kind_at k.LeftBrace brace && not (kind_at k.RightBrace next)

module _ (text : Bytes) (ts : List Token) where
  -- a value is written from one token up to another
  abbrev pub EndsAt : ℕ → ℕ → Type 0
  EndsAt from to = (l : Literal) × SpellsLiteral text ts l from to

  -- none is written
  abbrev pub NoneEnds : ℕ → Type 0
  NoneEnds from = (l : Literal) (to : ℕ) → SpellsLiteral text ts l from to → ⊥

  -- this many sets are open after a member that ends at a token, and the outermost ends at another
  abbrev pub Completes : ℕ → ℕ → ℕ → Type 0
  Completes zero at to = at ≡ to
  Completes (suc n) at to = (ls : Literals) × (mid : ℕ) × SpellsMembers text ts ls at mid × Completes n mid to

  -- this many sets are open at the token where a member begins, and the outermost ends at another
  abbrev pub Begun : ℕ → ℕ → ℕ → Type 0
  Begun n at to = (l : Literal) × (mid : ℕ) × SpellsLiteral text ts l at mid × Completes n mid to
