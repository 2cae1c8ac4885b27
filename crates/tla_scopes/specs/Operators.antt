-- The operators that have an expansion (book, chapter 15). None for those of time, and for UNCHANGED and \X, which
-- are forms of their own.
use Rattle.std.specs.Prelude.{Option, Some, None}
use Rattle.tla_core.specs.declared.expression.Unary.TheVariants as u
use Rattle.tla_core.specs.declared.expression.Binary.TheVariants as b
use Rattle.tla_tree.specs.declared.tree.Infix.{Infix}
use Rattle.tla_tree.specs.declared.tree.Infix.TheVariants as i
use Rattle.tla_tree.specs.declared.tree.Prefix.{Prefix}
use Rattle.tla_tree.specs.declared.tree.Prefix.TheVariants as p
use Rattle.tla_scopes.specs.declared.nodes.UnaryNode.{UnaryNode}
use Rattle.tla_scopes.specs.declared.nodes.UnaryNode.TheVariants as one
use Rattle.tla_scopes.specs.declared.nodes.BinaryNode.{BinaryNode}
use Rattle.tla_scopes.specs.declared.nodes.BinaryNode.TheVariants as two

abbrev pub prefix_for : Prefix → Option UnaryNode
prefix_for p.Not = Some (one.Unary u.Not)
prefix_for p.Negate = Some (one.Unary u.Negate)
prefix_for p.Subset = Some one.Power
prefix_for p.Union = Some (one.Unary u.Union)
prefix_for p.Domain = Some (one.Unary u.Domain)
prefix_for _ = None

abbrev pub infix_for : Infix → Option BinaryNode
infix_for i.And = Some two.And
infix_for i.Or = Some two.Or
infix_for i.Implies = Some two.Implies
infix_for i.Equal = Some two.Equal
infix_for i.Member = Some two.Member
infix_for i.NotMember = Some two.NotMember
infix_for i.SubsetEqual = Some two.Subset
infix_for i.Cup = Some two.Cup
infix_for i.Cap = Some two.Cap
infix_for i.Difference = Some two.Minus
infix_for i.Equivalent = Some (two.Binary b.Iff)
infix_for i.NotEqual = Some (two.Binary b.Unequal)
infix_for i.Less = Some (two.Binary b.LessThan)
infix_for i.Greater = Some (two.Binary b.GreaterThan)
infix_for i.AtMost = Some (two.Binary b.AtMost)
infix_for i.AtLeast = Some (two.Binary b.AtLeast)
infix_for i.Plus = Some (two.Binary b.Add)
infix_for i.Minus = Some (two.Binary b.Subtract)
infix_for i.Times = Some (two.Binary b.Multiply)
infix_for i.Quotient = Some (two.Binary b.Divide)
infix_for i.Remainder = Some (two.Binary b.Modulo)
infix_for i.Power = Some (two.Binary b.Power)
infix_for i.Range = Some (two.Binary b.Range)
infix_for i.Pair = Some (two.Binary b.Single)
infix_for i.Override = Some (two.Binary b.Override)
infix_for i.Concatenation = Some (two.Binary b.Concat)
infix_for i.Product = None
infix_for i.LeadsTo = None
