-- Where an expression ends.
use Rattle.std.specs.Prelude.{◌≡◌, ℕ, Bool, true, not, ◌&&◌, nat_lt, if◌then◌else◌, List, Option, Some, None}
use Rattle.tla_lex.specs.declared.token.Token.{Token}
use Rattle.tla_grammar.specs.declared.context.Context.{Context}
use Rattle.tla_tree.specs.declared.tree.Infix.{Infix}
use Rattle.tla_grammar.specs.Operators.{low, infix_of}
use Rattle.tla_grammar.specs.Edges.{edge_allows, top_above}
use Rattle.tla_grammar.specs.Tokens.{seen, is_suffix}
use Rattle.tla_tree.specs.Tree.{Tree}
use Rattle.tla_grammar.specs.Grammar.{Spells}

-- the operator, where it is above the floor
abbrev pub above : ℕ → Option Infix → Option Infix
above floor None = None
above floor (Some op) = if nat_lt floor (low op) then Some op else None

abbrev pub infix_at : Option Token → Option Infix
infix_at None = None
infix_at (Some t) = infix_of t.kind

abbrev pub allows : Tree → Option Infix → Bool
allows t None = true
allows t (Some op) = edge_allows t op

-- the token goes on with no operator that the tree's right edge refuses, and begins no postfix form and no arguments
abbrev pub may_end : Tree → Option Token → Bool
may_end t None = true
may_end t (Some u) = not (is_suffix u.kind) && allows t (infix_of u.kind)

-- An expression whose top is above a floor, before a token that doesn't go on with it.
pub record EndsAt (text : List ℕ) (ts : List Token) (s : Context) (floor : ℕ) (t : Tree) (from to : ℕ) : Type 0 where
  pub spells : Spells text ts s t from to
  pub fits : may_end t (seen ts s.column to) ≡ true
  pub top : top_above floor t ≡ true
  pub stops : above floor (infix_at (seen ts s.column to)) ≡ None
