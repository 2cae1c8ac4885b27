-- What the use of a module's operator expands to: nothing, or a node of as many parts as it has arguments.
use Rattle.std.proofs.Common.{ℕ, List, [], ◌∷◌, Option, Some, None}
use Rattle.tla_core.specs.declared.fault.Place.{Place}
use Rattle.tla_core.specs.Expr.{Expr}
use Rattle.tla_scopes.specs.declared.nodes.Builtin.{Builtin}
use Rattle.tla_scopes.specs.declared.nodes.Builtin.TheVariants as builtin
use Rattle.tla_scopes.specs.declared.nodes.Leaf.{Leaf}
use Rattle.tla_scopes.specs.declared.nodes.Leaf.TheVariants as leaves
use Rattle.tla_scopes.specs.declared.nodes.UnaryNode.{UnaryNode}
use Rattle.tla_scopes.specs.declared.nodes.UnaryNode.TheVariants as ones
use Rattle.tla_scopes.specs.declared.nodes.BinaryNode.{BinaryNode}
use Rattle.tla_scopes.specs.declared.nodes.TernaryNode.{TernaryNode}
use Rattle.tla_scopes.specs.Maybe.{◌>>=◌}
use Rattle.tla_scopes.specs.Nodes.{leaf, one, two, three}
use Rattle.tla_scopes.specs.Meanings.{Argument, builtin_meaning}

-- what holds of nothing and of such nodes
pub record HoldsOfUses (P : Option Expr → Type 0) (p : Place) : Type 0 where
  pub of_nothing : P None
  pub of_leaf : (l : Leaf) → P (leaf l p)
  pub of_one : (f : UnaryNode) (a : Option Expr) → P (a >>= λ x. Some (one f p x))
  pub of_two : (f : BinaryNode) (a b : Option Expr) → P (a >>= λ x. b >>= λ y. Some (two f p x y))
  pub of_three : (f : TernaryNode) (a b c : Option Expr) → P (a >>= λ x. b >>= λ y. c >>= λ z. Some (three f p x y z))

pub use_holds : (P : Option Expr → Type 0) (p : Place) → HoldsOfUses P p → (u : Builtin) (args : List Argument) (d : ℕ) → P (builtin_meaning u p args d)
use_holds P p h (builtin.Kinds t) [] d = h.of_leaf (leaves.Kinds t)
use_holds P p h (builtin.Kinds t) (a ∷ args) d = h.of_nothing
use_holds P p h builtin.Sequences [] d = h.of_nothing
use_holds P p h builtin.Sequences (a ∷ []) d = h.of_one ones.Sequences (a d)
use_holds P p h builtin.Sequences (a ∷ b ∷ args) d = h.of_nothing
use_holds P p h (builtin.One u) [] d = h.of_nothing
use_holds P p h (builtin.One u) (a ∷ []) d = h.of_one (ones.Unary u) (a d)
use_holds P p h (builtin.One u) (a ∷ b ∷ args) d = h.of_nothing
use_holds P p h (builtin.Two f) [] d = h.of_nothing
use_holds P p h (builtin.Two f) (a ∷ []) d = h.of_nothing
use_holds P p h (builtin.Two f) (a ∷ b ∷ []) d = h.of_two f (a d) (b d)
use_holds P p h (builtin.Two f) (a ∷ b ∷ c ∷ args) d = h.of_nothing
use_holds P p h (builtin.Three f) [] d = h.of_nothing
use_holds P p h (builtin.Three f) (a ∷ []) d = h.of_nothing
use_holds P p h (builtin.Three f) (a ∷ b ∷ []) d = h.of_nothing
use_holds P p h (builtin.Three f) (a ∷ b ∷ c ∷ []) d = h.of_three f (a d) (b d) (c d)
use_holds P p h (builtin.Three f) (a ∷ b ∷ c ∷ e ∷ args) d = h.of_nothing
