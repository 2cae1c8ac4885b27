-- What the answer to a module's tokens says.
use Rattle.std.specs.Prelude.{◌≡◌, ℕ, ◌≤◌, ◌⊎◌, ◌-◌, false, length, List, Option, Some, None, slice_get}
use Rattle.tla_lex.specs.declared.token.Place.{Place}
use Rattle.tla_lex.specs.declared.token.Token.{Token}
use Rattle.tla_parse.specs.declared.error.ParseCode.{ParseCode}
use Rattle.tla_parse.specs.declared.error.ParseCode.TheVariants as code
use Rattle.tla_tree.specs.Words.{word_of}
use Rattle.tla_grammar.specs.LeftOut.{BeginsLeftOut, IsUnknownModule, IsSecondHeader, is_left_out}
use Rattle.tla_tree.specs.Units.{UnitTree}
use Rattle.tla_tree.specs.declared.tree.TheConstants.{MAX_DEPTH}
use Rattle.tla_parse.specs.Units.{units_depth, SpellsModule}

module _ (text : List ℕ) (ts : List Token) where
  -- no units of any depth
  abbrev pub NoneSpells : Type 0
  NoneSpells = (us : List UnitTree) → SpellsModule text ts us → ⊥

  abbrev pub NoneSpellsWithin : ℕ → Type 0
  NoneSpellsWithin most = (us : List UnitTree) → units_depth us ≤ most → SpellsModule text ts us → ⊥

  -- a form that is left out begins at the token of this number
  abbrev pub IsFormLeftOut : ℕ → Type 0
  IsFormLeftOut at = BeginsLeftOut ts at ⊎ IsUnknownModule ts text at ⊎ IsSecondHeader ts text at

  -- the place and the name are those of a form that is left out
  abbrev pub IsLeftOut : Option Place → Option (List ℕ) → Type 0
  IsLeftOut p x = (at : ℕ) × (t : Token) × (slice_get ts at ≡ Some t) × (p ≡ Some t.place) × (x ≡ Some (word_of text t)) × IsFormLeftOut at

  -- what each refusal says of the text; that memory ran out says nothing
  abbrev pub Justified : ParseCode → Option Place → Option (List ℕ) → Type 0
  Justified code.Unexpected p x = NoneSpells
  Justified code.Precedence p x = NoneSpells
  Justified code.Column p x = NoneSpells
  Justified code.Nesting p x = NoneSpellsWithin MAX_DEPTH
  Justified code.LeftOut p x = IsLeftOut p x × NoneSpells
  Justified code.NoMemory p x = Unit {0}

module _ (ts : List Token) where
  -- The place of a token that is no word or symbol left out, or of the last token, which is a module's closing line.
  abbrev pub IsAtNoWordLeftOut : Option Place → Type 0
  IsAtNoWordLeftOut p = ((at : ℕ) × (t : Token) × (slice_get ts at ≡ Some t) × (p ≡ Some t.place) × (is_left_out t.kind ≡ false))
      ⊎ ((t : Token) × (slice_get ts (length ts - 1) ≡ Some t) × (p ≡ Some t.place))
      ⊎ (length ts ≡ 0)

  -- a token that is unexpected or too far left is no word or symbol that is left out
  abbrev pub IsNoWordLeftOut : ParseCode → Option Place → Type 0
  IsNoWordLeftOut code.Unexpected p = IsAtNoWordLeftOut p
  IsNoWordLeftOut code.Column p = IsAtNoWordLeftOut p
  IsNoWordLeftOut _ p = Unit {0}

-- there is a place unless memory ran out, and a name only for a form that is left out
abbrev pub IsLocated : ParseCode → Option Place → Option (List ℕ) → Type 0
IsLocated code.LeftOut (Some p) (Some x) = Unit {0}
IsLocated code.NoMemory None None = Unit {0}
IsLocated code.Unexpected (Some p) None = Unit {0}
IsLocated code.Precedence (Some p) None = Unit {0}
IsLocated code.Column (Some p) None = Unit {0}
IsLocated code.Nesting (Some p) None = Unit {0}
IsLocated _ _ _ = ⊥
