-- The text of a configuration (book, chapter 14; the exact grammar is this project's own choice).
use Rattle.std.specs.Prelude.{◌≡◌, ◌≤◌, ◌⊎◌, ℕ, ◌+◌, Bool, true, false, IsFalse, List, [], ◌∷◌, Some, length, slice_get, filter, codes}
use Rattle.std.specs.Str.{IsUtf8}
use Rattle.tla_lex.specs.Bytes.{Bytes}
use Rattle.tla_lex.specs.Reads.{Reads}
use Rattle.tla_lex.specs.declared.lexeme.Source.TheVariants as source
use Rattle.tla_lex.specs.declared.scan.Stop.TheVariants.{End}
use Rattle.tla_lex.specs.declared.token.Kind.{Kind}
use Rattle.tla_lex.specs.declared.token.Kind.TheVariants as k
use Rattle.tla_lex.specs.declared.token.Place.{Place}
use Rattle.tla_lex.specs.declared.token.Token.{Token}
use Rattle.tla_tree.specs.Words.{word_of, written}
use Rattle.tla_tree.specs.declared.word.Written.{Written}
use Rattle.tla_value.specs.IsValue.{IsValue}
use Rattle.tla_value.specs.Tree.{Tree, int}
use Rattle.tla_config.specs.Literals.{Literal, Literals, atom, braces, no_literals, more_literals, value_of, number, atom_of}
use Rattle.tla_config.specs.Names.{Name, is_among, statement_words}
use Rattle.tla_config.specs.Statements.{Item, Value, Replaces, Statement, Specification, Init, Next, Invariants, Constraints, Constants, CheckDeadlock}

abbrev pub is_check_deadlock : Statement → Bool
is_check_deadlock (CheckDeadlock p check) = true
is_check_deadlock _ = false

abbrev pub kind_of : Bool → Kind
kind_of true = k.True
kind_of false = k.False

module _ (text : Bytes) (ts : List Token) where
  -- a token of this kind, written so
  abbrev pub Writes : Kind → Written → ℕ → Type 0
  Writes kind w at = (t : Token) × (slice_get ts at ≡ Some t) × (t.kind ≡ kind) × (written text t ≡ w)

  abbrev pub Has : Kind → ℕ → Type 0
  Has kind at = (t : Token) × (slice_get ts at ≡ Some t) × (t.kind ≡ kind)

  -- a token of this kind, at this place
  abbrev pub Is : Kind → Place → ℕ → Type 0
  Is kind p at = (t : Token) × (slice_get ts at ≡ Some t) × (t.kind ≡ kind) × (t.place ≡ p)

  -- the word of a statement, at this place
  abbrev pub Begins : Name → Place → ℕ → Type 0
  Begins word p at = Writes k.Name (record { place = p; word = word }) at

  abbrev pub IsName : Written → ℕ → Type 0
  IsName w at = Writes k.Name w at × IsFalse (is_among w.word statement_words)

  -- one name or more, with a comma between two of them or without
  abbrev pub Names : List Written → ℕ → ℕ → Type 0
  Names [] from to = ⊥
  Names (w ∷ []) from to = IsName w from × (to ≡ from + 1)
  Names (w ∷ v ∷ ws) from to = IsName w from × (at : ℕ) × ((at ≡ from + 1) ⊎ (Has k.Comma (from + 1) × (at ≡ from + 2))) × Names (v ∷ ws) at to

  -- a value of one token, or a number after `-`
  abbrev pub IsAtom : Tree → ℕ → ℕ → Type 0
  IsAtom v from to = ((t : Token) × (slice_get ts from ≡ Some t) × (atom_of text t ≡ Some v) × (to ≡ from + 1))
      ⊎ (Has k.Minus from × (t : Token) × (slice_get ts (from + 1) ≡ Some t) × (t.kind ≡ k.Digits) × (v ≡ int (number true (word_of text t))) × (to ≡ from + 2))

  abbrev mutual
    pub SpellsLiteral : Literal → ℕ → ℕ → Type 0
    SpellsLiteral (atom v) from to = IsAtom v from to
    SpellsLiteral (braces no_literals) from to = Has k.LeftBrace from × Has k.RightBrace (from + 1) × (to ≡ from + 2)
    SpellsLiteral (braces (more_literals l ls)) from to = Has k.LeftBrace from × (mid : ℕ) × SpellsLiteral l (from + 1) mid × SpellsMembers ls mid to

    -- the members after the first, each after a comma, and the brace that closes the set
    pub SpellsMembers : Literals → ℕ → ℕ → Type 0
    SpellsMembers no_literals from to = Has k.RightBrace from × (to ≡ from + 1)
    SpellsMembers (more_literals l ls) from to = Has k.Comma from × (mid : ℕ) × SpellsLiteral l (from + 1) mid × SpellsMembers ls mid to

  -- `c = value`, where the value is within the limits of values, and `c <- Op`
  abbrev pub SpellsItem : Item → ℕ → ℕ → Type 0
  SpellsItem (Value c v) from to = IsName c from × Has k.Equal (from + 1) × ((l : Literal) × SpellsLiteral l (from + 2) to × (value_of l ≡ v)) × IsValue v
  SpellsItem (Replaces c op) from to = IsName c from × Has k.Substitute (from + 1) × IsName op (from + 2) × (to ≡ from + 3)

  -- one item or more, with a comma between two of them or without
  abbrev pub Items : List Item → ℕ → ℕ → Type 0
  Items [] from to = ⊥
  Items (i ∷ []) from to = SpellsItem i from to
  Items (i ∷ j ∷ js) from to = (mid : ℕ) × SpellsItem i from mid × (at : ℕ) × ((at ≡ mid) ⊎ (Has k.Comma mid × (at ≡ mid + 1))) × Items (j ∷ js) at to

  abbrev pub SpellsStatement : Statement → ℕ → ℕ → Type 0
  SpellsStatement (Specification p w) from to = Begins (codes "SPECIFICATION") p from × IsName w (from + 1) × (to ≡ from + 2)
  SpellsStatement (Init p w) from to = Begins (codes "INIT") p from × IsName w (from + 1) × (to ≡ from + 2)
  SpellsStatement (Next p w) from to = Begins (codes "NEXT") p from × IsName w (from + 1) × (to ≡ from + 2)
  SpellsStatement (Invariants p ws) from to = (Begins (codes "INVARIANT") p from ⊎ Begins (codes "INVARIANTS") p from) × Names ws (from + 1) to
  SpellsStatement (Constraints p ws) from to = (Begins (codes "CONSTRAINT") p from ⊎ Begins (codes "CONSTRAINTS") p from) × Names ws (from + 1) to
  SpellsStatement (Constants p is) from to = Is k.Constant p from × Items is (from + 1) to
  SpellsStatement (CheckDeadlock p check) from to = Begins (codes "CHECK_DEADLOCK") p from × Has (kind_of check) (from + 1) × (to ≡ from + 2)

  -- one statement after the other, from one token up to another
  abbrev pub StatementsUpTo : List Statement → ℕ → ℕ → Type 0
  StatementsUpTo [] from to = from ≡ to
  StatementsUpTo (c ∷ cs) from to = (mid : ℕ) × SpellsStatement c from mid × StatementsUpTo cs mid to

  -- one statement after the other, up to the last token
  abbrev pub SpellsStatements : List Statement → ℕ → Type 0
  SpellsStatements cs from = StatementsUpTo cs from (length ts)

-- A text is a configuration of these statements, of which one at most is CHECK_DEADLOCK.
pub record IsConfiguration (text : Bytes) (cs : List Statement) : Type 0 where
  pub utf8 : IsUtf8 text
  pub tokens : List Token
  pub end : Place
  pub reads : Reads source.Configuration text 0 tokens (End end)
  pub spelled : SpellsStatements text tokens cs 0
  pub once : length (filter is_check_deadlock cs) ≤ 1
