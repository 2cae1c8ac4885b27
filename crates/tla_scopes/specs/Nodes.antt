-- What a node is, of its parts.
use Rattle.std.specs.Prelude.{ℕ, pos, true, false, Option, Some, None, nat_le, if◌then◌else◌}
use Rattle.tla_value.specs.Tree as value
use Rattle.tla_value.specs.TreeOf.{tree_of}
use Rattle.tla_value.specs.declared.value.Value.{Value}
use Rattle.tla_core.specs.declared.fault.Place.{Place}
use Rattle.tla_core.specs.ExprOf.{unary_of, binary_of, kind_of}
use Rattle.tla_core.specs.Expr as e
use Rattle.tla_core.specs.Expr.{Expr, Exprs, Strings, constant, bound, booleans, kind_set, power, sequences, unary, binary, equal, sub_seq, enumerated, tuple, conjunction, disjunction, implies, conditional, assert, for_all, for_some, choose, member, not_member, subset, cup, cap, minus, filtered, functions, product, image, function, record_of, records, Fields, no_exprs, more_exprs}
use Rattle.tla_tree.specs.declared.tree.Constant.{Constant}
use Rattle.tla_tree.specs.declared.tree.Constant.TheVariants.{True, False, Boolean, String}
use Rattle.tla_scopes.specs.declared.nodes.Leaf.{Leaf}
use Rattle.tla_scopes.specs.declared.nodes.Leaf.TheVariants as leaf_
use Rattle.tla_scopes.specs.declared.nodes.UnaryNode.{UnaryNode}
use Rattle.tla_scopes.specs.declared.nodes.UnaryNode.TheVariants as one_
use Rattle.tla_scopes.specs.declared.nodes.BinaryNode.{BinaryNode}
use Rattle.tla_scopes.specs.declared.nodes.BinaryNode.TheVariants as two_
use Rattle.tla_scopes.specs.declared.nodes.TernaryNode.{TernaryNode}
use Rattle.tla_scopes.specs.declared.nodes.TernaryNode.TheVariants as three_
use Rattle.tla_scopes.specs.declared.nodes.ListNode.{ListNode}
use Rattle.tla_scopes.specs.declared.nodes.ListNode.TheVariants as many_
use Rattle.tla_scopes.specs.declared.nodes.Binding.{Binding}
use Rattle.tla_scopes.specs.declared.nodes.Binding.TheVariants as binds_
use Rattle.tla_scopes.specs.declared.nodes.Gather.{Gather}
use Rattle.tla_scopes.specs.declared.nodes.Gather.TheVariants as gather_
use Rattle.tla_scopes.specs.declared.nodes.Fielded.{Fielded}
use Rattle.tla_scopes.specs.declared.nodes.Fielded.TheVariants as fielded_

-- what a word means
abbrev pub constant_of : Place → Constant → Expr
constant_of p True = constant p (value.truth true)
constant_of p False = constant p (value.truth false)
constant_of p Boolean = booleans p
constant_of p String = kind_set p Strings

-- numbers are of 64 bits
abbrev pub largest : ℕ
largest = 9223372036854775807

abbrev pub number_of : Place → ℕ → Option Expr
number_of p n = if nat_le n largest then Some (constant p (value.int (pos n))) else None

abbrev pub value_of : Place → Value → Option Expr
value_of p v = Some (constant p (tree_of v))

abbrev pub leaf : Leaf → Place → Option Expr
leaf (leaf_.Number n) p = number_of p n
leaf (leaf_.Text w) p = Some (constant p (value.text w.now))
leaf (leaf_.Word c) p = Some (constant_of p c)
leaf (leaf_.Bound i) p = Some (bound p i)
leaf (leaf_.Value v) p = value_of p v.now
leaf (leaf_.Kinds k) p = Some (kind_set p (kind_of k))

abbrev pub one : UnaryNode → Place → Expr → Expr
one (one_.Unary u) p x = unary p (unary_of u) x
one one_.Power p x = power p x
one one_.Sequences p x = sequences p x
one (one_.Field w) p x = unary p (e.Field w.now) x

abbrev pub two : BinaryNode → Place → Expr → Expr → Expr
two (two_.Binary b) p x y = binary p (binary_of b) x y
two two_.Apply p x y = binary p e.Apply x y
two two_.Equal p x y = equal p x y
two two_.Implies p x y = implies p x y
two two_.And p x y = conjunction p (more_exprs x (more_exprs y no_exprs))
two two_.Or p x y = disjunction p (more_exprs x (more_exprs y no_exprs))
two two_.Member p x y = member p x y
two two_.NotMember p x y = not_member p x y
two two_.Subset p x y = subset p x y
two two_.Cup p x y = cup p x y
two two_.Cap p x y = cap p x y
two two_.Minus p x y = minus p x y
two two_.Assert p x y = assert p x y
two two_.Functions p x y = functions p x y

abbrev pub three : TernaryNode → Place → Expr → Expr → Expr → Expr
three three_.If p x y z = conditional p x y z
three three_.SubSeq p x y z = sub_seq p x y z

abbrev pub many : ListNode → Place → Exprs → Expr
many many_.Set p xs = enumerated p xs
many many_.Tuple p xs = tuple p xs
many many_.And p xs = conjunction p xs
many many_.Or p xs = disjunction p xs
many many_.Product p xs = product p xs

-- of a set, and of a body that has one bound name more
abbrev pub binding : Binding → Place → Expr → Expr → Expr
binding binds_.ForAll p s x = for_all p s x
binding binds_.ForSome p s x = for_some p s x
binding binds_.Choose p s x = choose p s x
binding binds_.Filter p s x = filtered p s x

-- of sets, and of a body that has one bound name more for each
abbrev pub gather : Gather → Place → Exprs → Expr → Expr
gather gather_.Image p ss x = image p ss x
gather gather_.Function p ss x = function p ss x

-- of fields
abbrev pub fielded : Fielded → Place → Fields → Expr
fielded fielded_.Record p fs = record_of p fs
fielded fielded_.Records p fs = records p fs

-- a list that is true where its parts are, TRUE where it has none
abbrev pub kept : Place → Exprs → Expr
kept p no_exprs = constant p (value.truth true)
kept p (more_exprs x xs) = conjunction p (more_exprs x xs)
