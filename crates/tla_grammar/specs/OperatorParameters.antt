-- Operators as parameters of a definition, and definitions with such a parameter.
use Rattle.std.specs.Prelude.{◌≡◌, ◌⊎◌, ℕ, zero, suc, ◌+◌, IsSome, List, Some, slice_get}
use Rattle.tla_lex.specs.declared.token.Token.{Token}
use Rattle.tla_lex.specs.declared.token.Kind.TheVariants as k
use Rattle.tla_grammar.specs.Operators.{infix_of, prefix_of}
use Rattle.tla_grammar.specs.Tokens.{KindAt}

module _ (ts : List Token) where
  -- a prefix operator; an infix operator
  abbrev pub IsPrefix : ℕ → Type 0
  IsPrefix at = (t : Token) × (slice_get ts at ≡ Some t) × IsSome (prefix_of t.kind)

  abbrev pub IsInfix : ℕ → Type 0
  IsInfix at = (t : Token) × (slice_get ts at ≡ Some t) × IsSome (infix_of t.kind)

  -- this many underscores between two tokens, each with a comma after it
  abbrev pub Underscores : ℕ → ℕ → ℕ → Type 0
  Underscores zero from at = at ≡ from
  Underscores (suc n) from at = (before : ℕ) × Underscores n from before × KindAt ts before k.Underscore × KindAt ts (before + 1) k.Comma × (at ≡ before + 2)

  -- F(_, ..), up to the token after it
  abbrev pub IsNamedParameter : ℕ → ℕ → Type 0
  IsNamedParameter at to = (n : ℕ) × (last : ℕ) × KindAt ts at k.Name × KindAt ts (at + 1) k.LeftParen × Underscores n (at + 2) last × KindAt ts last k.Underscore × KindAt ts (last + 1) k.RightParen × (to ≡ last + 2)

  -- an operator as parameter, up to the token after it: F(_, ..); - _; _ + _
  abbrev pub IsOperatorParameter : ℕ → ℕ → Type 0
  IsOperatorParameter at to = IsNamedParameter at to
      ⊎ (IsPrefix at × KindAt ts (at + 1) k.Underscore × (to ≡ at + 2))
      ⊎ (KindAt ts at k.Underscore × IsInfix (at + 1) × KindAt ts (at + 2) k.Underscore × (to ≡ at + 3))

  -- a name or an operator as parameter, up to the token after it
  abbrev pub IsParameter : ℕ → ℕ → Type 0
  IsParameter at to = (KindAt ts at k.Name × (to ≡ at + 1)) ⊎ IsOperatorParameter at to

  -- this many parameters between two tokens, each with a comma after it
  abbrev pub Parameters : ℕ → ℕ → ℕ → Type 0
  Parameters zero from at = at ≡ from
  Parameters (suc n) from at = (before : ℕ) × (comma : ℕ) × Parameters n from before × IsParameter before comma × KindAt ts comma k.Comma × (at ≡ comma + 1)

  -- the parameters of a definition and its `==`: Op(.., ..) ==
  abbrev pub IsDefinition : ℕ → Type 0
  IsDefinition at = (n : ℕ) × (last : ℕ) × (end : ℕ) × KindAt ts at k.Name × KindAt ts (at + 1) k.LeftParen × Parameters n (at + 2) last × IsParameter last end × KindAt ts end k.RightParen × KindAt ts (end + 1) k.Define

  -- an operator among the parameters
  abbrev pub HasOperator : ℕ → Type 0
  HasOperator at = (n : ℕ) × (here : ℕ) × (end : ℕ) × Parameters n (at + 2) here × IsOperatorParameter here end

  -- a definition with an operator as parameter, Op(.., F(_), ..) ==
  abbrev pub HasOperatorParameter : ℕ → Type 0
  HasOperatorParameter at = IsDefinition at × HasOperator at
