-- Whether a token is of a kind that a reading asks for, and what it does to the parts of a bracket.
use Rattle.std.specs.Prelude.{Bool, false, Option, Some, None}
use Rattle.tla_lex.specs.SameKind.{same_kind}
use Rattle.tla_lex.specs.declared.token.Kind.{Kind}
use Rattle.tla_lex.specs.declared.token.Kind.TheVariants as k
use Rattle.tla_lex.specs.declared.token.Token.{Token}
use Rattle.tla_grammar.specs.declared.ahead.Role.{Role}
use Rattle.tla_grammar.specs.declared.ahead.Role.TheVariants as role
use Rattle.tla_tree.specs.declared.tree.Brackets.{Brackets}
use Rattle.tla_tree.specs.declared.tree.Brackets.TheVariants as b
use Rattle.tla_tree.specs.declared.tree.Step.{Step}
use Rattle.tla_tree.specs.declared.tree.Step.TheVariants as step
use Rattle.tla_tree.specs.declared.tree.Fairness.{Fairness}
use Rattle.tla_tree.specs.declared.tree.Fairness.TheVariants as fair

abbrev pub kind_at : Kind → Option Token → Bool
kind_at kind None = false
kind_at kind (Some t) = same_kind kind t.kind

-- the tokens around an action with a subscript
abbrev pub step_opening : Step → Kind
step_opening step.Box = k.LeftBracket
step_opening step.Angle = k.LeftTuple

abbrev pub step_closing : Step → Kind
step_closing step.Box = k.RightBracketSubscript
step_closing step.Angle = k.RightTupleSubscript

abbrev pub fairness_word : Fairness → Kind
fairness_word fair.Weak = k.WeakFairness
fairness_word fair.Strong = k.StrongFairness

-- the tokens of two kinds of brackets
abbrev pub opening : Brackets → Kind
opening b.Set = k.LeftBrace
opening b.Tuple = k.LeftTuple

abbrev pub closing : Brackets → Kind
closing b.Set = k.RightBrace
closing b.Tuple = k.RightTuple

-- what a token does to the parts of a bracket
abbrev pub role_of : Kind → Role
role_of k.LeftParen = role.Opens
role_of k.LeftBracket = role.Opens
role_of k.LeftBrace = role.Opens
role_of k.LeftTuple = role.Opens
role_of k.RightParen = role.Closes
role_of k.RightBracket = role.Closes
role_of k.RightBracketSubscript = role.Closes
role_of k.RightBrace = role.Closes
role_of k.RightTuple = role.Closes
role_of k.RightTupleSubscript = role.Closes
role_of k.ForAll = role.Binds
role_of k.Exists = role.Binds
role_of k.Choose = role.Binds
role_of k.Colon = role.Colon
role_of k.Comma = role.Separates
role_of k.MapsTo = role.Separates
role_of k.Except = role.Separates
role_of _ = role.Plain
