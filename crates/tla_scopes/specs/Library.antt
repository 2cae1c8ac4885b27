-- The operators of the modules that are used by their names (book, chapter 18).
use Rattle.std.specs.Prelude.{Option, Some, None, codes, if◌then◌else◌}
use Rattle.std.specs.Str.{bytes_eq}
use Rattle.tla_core.specs.declared.expression.Unary.TheVariants as u
use Rattle.tla_core.specs.declared.expression.Binary.TheVariants as b
use Rattle.tla_core.specs.declared.expression.Kind.TheVariants as k
use Rattle.tla_scopes.specs.declared.nodes.BinaryNode.TheVariants as two
use Rattle.tla_scopes.specs.declared.nodes.TernaryNode.TheVariants as three
use Rattle.tla_scopes.specs.declared.nodes.Builtin.{Builtin}
use Rattle.tla_scopes.specs.declared.nodes.Builtin.TheVariants as builtin
use Rattle.tla_scopes.specs.Places.{Name}

abbrev pub library : Name → Option Builtin
library x =
    if bytes_eq x (codes "Nat") then Some (builtin.Kinds k.Naturals)
    else if bytes_eq x (codes "Int") then Some (builtin.Kinds k.Integers)
    else if bytes_eq x (codes "Seq") then Some builtin.Sequences
    else if bytes_eq x (codes "Len") then Some (builtin.One u.Len)
    else if bytes_eq x (codes "Head") then Some (builtin.One u.Head)
    else if bytes_eq x (codes "Tail") then Some (builtin.One u.Tail)
    else if bytes_eq x (codes "Append") then Some (builtin.Two (two.Binary b.Append))
    else if bytes_eq x (codes "SubSeq") then Some (builtin.Three three.SubSeq)
    else if bytes_eq x (codes "IsFiniteSet") then Some (builtin.One u.IsFinite)
    else if bytes_eq x (codes "Cardinality") then Some (builtin.One u.Cardinality)
    else if bytes_eq x (codes "Assert") then Some (builtin.Two two.Assert)
    else None
