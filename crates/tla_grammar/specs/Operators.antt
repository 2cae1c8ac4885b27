-- The operators: their ranges (this project's own choice, after the book's table in chapter 15), and the tokens that
-- write them.
use Rattle.std.specs.Prelude.{ℕ, Option, Some, None, Bool, true, false}
use Rattle.tla_lex.specs.declared.token.Kind.{Kind}
use Rattle.tla_lex.specs.declared.token.Kind.TheVariants as k
use Rattle.tla_tree.specs.declared.tree.Infix.{Infix}
use Rattle.tla_tree.specs.declared.tree.Infix.TheVariants as i
use Rattle.tla_tree.specs.declared.tree.Prefix.{Prefix}
use Rattle.tla_tree.specs.declared.tree.Prefix.TheVariants as p
use Rattle.tla_tree.specs.declared.tree.Bullet.{Bullet}
use Rattle.tla_tree.specs.declared.tree.Bullet.TheVariants as bu
use Rattle.tla_tree.specs.declared.tree.Quantifier.{Quantifier}
use Rattle.tla_tree.specs.declared.tree.Quantifier.TheVariants as q
use Rattle.tla_tree.specs.declared.tree.Constant.{Constant}
use Rattle.tla_tree.specs.declared.tree.Constant.TheVariants as c

-- the low end of an infix operator's range
abbrev pub low : Infix → ℕ
low i.Implies = 1
low i.Equivalent = 2
low i.LeadsTo = 2
low i.And = 3
low i.Or = 3
low i.Equal = 5
low i.NotEqual = 5
low i.Less = 5
low i.Greater = 5
low i.AtMost = 5
low i.AtLeast = 5
low i.Member = 5
low i.NotMember = 5
low i.SubsetEqual = 5
low i.Override = 6
low i.Pair = 7
low i.Cup = 8
low i.Cap = 8
low i.Difference = 8
low i.Range = 9
low i.Plus = 10
low i.Remainder = 10
low i.Minus = 11
low i.Product = 10
low i.Times = 13
low i.Quotient = 13
low i.Concatenation = 13
low i.Power = 14

-- the high end: `%` and `\X` have ranges of more than one number
abbrev pub high : Infix → ℕ
high i.Remainder = 11
high i.Product = 13
high op = low op

-- the ranges of the prefix operators
abbrev pub prefix_low : Prefix → ℕ
prefix_low p.Not = 4
prefix_low p.Negate = 12
prefix_low p.Always = 4
prefix_low p.Eventually = 4
prefix_low p.Unchanged = 4
prefix_low p.Subset = 8
prefix_low p.Union = 8
prefix_low p.Domain = 9

abbrev pub prefix_high : Prefix → ℕ
prefix_high p.Not = 4
prefix_high p.Negate = 12
prefix_high p.Always = 15
prefix_high p.Eventually = 15
prefix_high p.Unchanged = 15
prefix_high p.Subset = 8
prefix_high p.Union = 8
prefix_high p.Domain = 9

-- a number for each operator that groups to the left, else 0
abbrev pub left_group : Infix → ℕ
left_group i.And = 1
left_group i.Or = 2
left_group i.Cup = 3
left_group i.Cap = 4
left_group i.Override = 5
left_group i.Plus = 6
left_group i.Minus = 7
left_group i.Times = 8
left_group i.Concatenation = 9
left_group i.Remainder = 10
left_group _ = 0

-- `\X`, which makes one product of all its operands
abbrev pub is_product : Infix → Bool
is_product i.Product = true
is_product _ = false

-- the infix operator of a token
abbrev pub infix_of : Kind → Option Infix
infix_of k.Implies = Some i.Implies
infix_of k.Equivalent = Some i.Equivalent
infix_of k.LeadsTo = Some i.LeadsTo
infix_of k.And = Some i.And
infix_of k.Or = Some i.Or
infix_of k.Equal = Some i.Equal
infix_of k.NotEqual = Some i.NotEqual
infix_of k.Less = Some i.Less
infix_of k.Greater = Some i.Greater
infix_of k.AtMost = Some i.AtMost
infix_of k.AtLeast = Some i.AtLeast
infix_of k.Member = Some i.Member
infix_of k.NotMember = Some i.NotMember
infix_of k.SubsetEqual = Some i.SubsetEqual
infix_of k.Override = Some i.Override
infix_of k.Pair = Some i.Pair
infix_of k.Cup = Some i.Cup
infix_of k.Cap = Some i.Cap
infix_of k.Difference = Some i.Difference
infix_of k.Range = Some i.Range
infix_of k.Plus = Some i.Plus
infix_of k.Remainder = Some i.Remainder
infix_of k.Minus = Some i.Minus
infix_of k.Product = Some i.Product
infix_of k.Times = Some i.Times
infix_of k.Quotient = Some i.Quotient
infix_of k.Concatenation = Some i.Concatenation
infix_of k.Power = Some i.Power
infix_of _ = None

-- what a token writes before an operand
abbrev pub prefix_of : Kind → Option Prefix
prefix_of k.Not = Some p.Not
prefix_of k.Minus = Some p.Negate
prefix_of k.Box = Some p.Always
prefix_of k.Diamond = Some p.Eventually
prefix_of k.Unchanged = Some p.Unchanged
prefix_of k.Subset = Some p.Subset
prefix_of k.Union = Some p.Union
prefix_of k.Domain = Some p.Domain
prefix_of _ = None

abbrev pub bullet_of : Kind → Option Bullet
bullet_of k.And = Some bu.And
bullet_of k.Or = Some bu.Or
bullet_of _ = None

abbrev pub same_bullet : Bullet → Bullet → Bool
same_bullet bu.And bu.And = true
same_bullet bu.Or bu.Or = true
same_bullet _ _ = false

abbrev pub quantifier_of : Kind → Option Quantifier
quantifier_of k.ForAll = Some q.ForAll
quantifier_of k.Exists = Some q.Exists
quantifier_of _ = None

abbrev pub constant_of : Kind → Option Constant
constant_of k.True = Some c.True
constant_of k.False = Some c.False
constant_of k.Boolean = Some c.Boolean
constant_of k.String = Some c.String
constant_of _ = None
