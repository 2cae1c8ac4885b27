-- The forms of the book's language that this one leaves out.
use Rattle.std.specs.Prelude.{◌≡◌, ◌≤◌, ◌<◌, ◌⊎◌, ℕ, zero, suc, ◌+◌, Bool, true, false, not, IsTrue, List, Some, slice_get, take, drop, length, ◌-◌}
use Rattle.std.specs.List.{list_all}
use Rattle.tla_lex.specs.Bytes.{is_space_or_tab}
use Rattle.tla_lex.specs.declared.token.Token.{Token}
use Rattle.tla_lex.specs.declared.token.Kind.{Kind}
use Rattle.tla_lex.specs.declared.token.Kind.TheVariants as k
use Rattle.tla_grammar.specs.declared.ahead.Role.{Role}
use Rattle.tla_grammar.specs.declared.ahead.Role.TheVariants as role
use Rattle.tla_tree.specs.Words.{word_of}
use Rattle.tla_grammar.specs.Kinds.{role_of}
use Rattle.tla_grammar.specs.Modules.{is_module}
use Rattle.tla_grammar.specs.OperatorParameters.{HasOperatorParameter}
use Rattle.tla_grammar.specs.Tokens.{KindAt, Commas}

abbrev pub is_quantifier : Kind → Bool
is_quantifier k.ForAll = true
is_quantifier k.Exists = true
is_quantifier _ = false

-- refused wherever they are
abbrev pub is_left_out : Kind → Bool
is_left_out k.Enabled = true
is_left_out k.Instance = true
is_left_out k.Lambda = true
is_left_out k.Recursive = true
is_left_out k.With = true
is_left_out k.Proof = true
is_left_out k.By = true
is_left_out k.Obvious = true
is_left_out k.Omitted = true
is_left_out k.TemporalForAll = true
is_left_out k.TemporalExists = true
is_left_out k.Composition = true
is_left_out k.MinusMinus = true
is_left_out k.Guarantees = true
is_left_out _ = false

abbrev pub is_bracket : Role → Bool
is_bracket role.Opens = true
is_bracket role.Closes = true
is_bracket _ = false

-- there are spaces or tabs between these bytes, one or more
abbrev pub AreApart : List ℕ → ℕ → ℕ → Type 0
AreApart text from to = (from < to) × (to ≤ length text) × IsTrue (list_all is_space_or_tab (take (to - from) (drop from text)))

module _ (ts : List Token) where
  -- a word or symbol that is left out
  abbrev pub IsWordLeftOut : ℕ → Type 0
  IsWordLeftOut at = (t : Token) × (slice_get ts at ≡ Some t) × IsTrue (is_left_out t.kind)

  -- there is a token in this role
  abbrev pub HasRole : Role → ℕ → Type 0
  HasRole r at = (t : Token) × (slice_get ts at ≡ Some t) × (role_of t.kind ≡ r)

  abbrev pub IsNoBracket : ℕ → Type 0
  IsNoBracket at = (t : Token) × (slice_get ts at ≡ Some t) × (is_bracket (role_of t.kind) ≡ false)

  -- The tokens from one number up to another are balanced: each bracket that opens among them is closed among them, and
  -- no other is.
  pub data IsBalanced : ℕ → ℕ → Type 0 where
    nothing : (at : ℕ) → IsBalanced at at
    no_bracket : (from to : ℕ) → IsNoBracket from → IsBalanced (suc from) to → IsBalanced from to
    brackets : (from close to : ℕ) → HasRole role.Opens from → IsBalanced (suc from) close → HasRole role.Closes close → IsBalanced (suc close) to → IsBalanced from to

  -- a closing bracket closes the bracket around this token: the tokens between are balanced
  abbrev pub ClosesAround : ℕ → ℕ → Type 0
  ClosesAround at close = HasRole role.Closes close × IsBalanced (suc at) close

  -- inside an EXCEPT, at any depth: an EXCEPT comes before, and the bracket around it isn't closed before
  abbrev pub IsInExcept : ℕ → Type 0
  IsInExcept at = (except : ℕ) × (except < at) × KindAt ts except k.Except × ((close : ℕ) → close < at → ClosesAround except close → ⊥)

  -- `!` outside EXCEPT: it selects from a module
  abbrev pub IsSelector : ℕ → Type 0
  IsSelector at = KindAt ts at k.Bang × (IsInExcept at → ⊥)

  -- a quantifier over names without a set, \A x, y : p
  abbrev pub IsUnbounded : ℕ → Type 0
  IsUnbounded at = (n : ℕ) × (last : ℕ) × (t : Token) × (slice_get ts at ≡ Some t) × IsTrue (is_quantifier t.kind) × Commas ts n (at + 1) last × KindAt ts last k.Name × KindAt ts (last + 1) k.Colon

  -- CHOOSE x : p
  abbrev pub IsUnboundedChoice : ℕ → Type 0
  IsUnboundedChoice at = KindAt ts at k.Choose × KindAt ts (at + 1) k.Name × KindAt ts (at + 2) k.Colon

  -- CHOOSE <<x, y>> : p
  abbrev pub IsUnboundedTuple : ℕ → Type 0
  IsUnboundedTuple at = (n : ℕ) × (last : ℕ) × KindAt ts at k.Choose × KindAt ts (at + 1) k.LeftTuple × Commas ts n (at + 2) last × KindAt ts last k.Name × KindAt ts (last + 1) k.RightTuple × KindAt ts (last + 2) k.Colon

  -- only separators come before the token: a module's name and a separator come before its units
  abbrev pub OnlySeparators : ℕ → Type 0
  OnlySeparators to = (at : ℕ) → 2 ≤ at → at < to → KindAt ts at k.Separator

  -- the token after a first EXTENDS and n names with a comma each
  abbrev pub IsExtended : ℕ → ℕ → Type 0
  IsExtended zero at = (before : ℕ) × KindAt ts before k.Extends × OnlySeparators before × (at ≡ before + 1)
  IsExtended (suc n) at = (before : ℕ) × IsExtended n before × KindAt ts before k.Name × KindAt ts (before + 1) k.Comma × (at ≡ before + 2)

  -- the list of the forms left out, but for those that the text decides: a second header, and an unknown module
  pub data LeftOut (at : ℕ) : Type 0 where
    word : IsWordLeftOut at → LeftOut at
    selector : IsSelector at → LeftOut at
    unbounded : IsUnbounded at → LeftOut at
    unbounded_choice : IsUnboundedChoice at → LeftOut at
    unbounded_tuple : IsUnboundedTuple at → LeftOut at
    parameter : HasOperatorParameter ts at → LeftOut at

  -- one of these begins at the token of this number
  unfoldable pub BeginsLeftOut : ℕ → Type 0
  BeginsLeftOut at = LeftOut at

  -- a name under EXTENDS that is none of the modules known
  abbrev pub IsUnknownModule : List ℕ → ℕ → Type 0
  IsUnknownModule text at = (n : ℕ) × (t : Token) × IsExtended n at × (slice_get ts at ≡ Some t) × (t.kind ≡ k.Name) × IsTrue (not (is_module (word_of text t)))

  -- a second header: MODULE after a run of dashes and spaces or tabs
  abbrev pub IsSecondHeader : List ℕ → ℕ → Type 0
  IsSecondHeader text at = (before : ℕ) × (line : Token) × (t : Token) × (at ≡ before + 1) × (slice_get ts before ≡ Some line) × (line.kind ≡ k.Separator)
      × (slice_get ts at ≡ Some t) × (t.kind ≡ k.Module) × AreApart text line.end t.start
