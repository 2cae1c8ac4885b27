-- The mathematical value of a configuration in memory.
use Rattle.std.specs.Prelude.{List, map}
use Rattle.tla_lex.specs.declared.token.Place.{Place}
use Rattle.tla_value.specs.TreeOf.{tree_of}
use Rattle.tla_config.specs.declared.statement.Item.{Item}
use Rattle.tla_config.specs.declared.statement.Item.TheVariants.{Value, Replaces}
use Rattle.tla_config.specs.declared.statement.Statement.{Statement}
use Rattle.tla_config.specs.declared.statement.Statement.TheVariants.{Specification, Init, Next, Invariants, Constraints, Constants, CheckDeadlock}
use Rattle.tla_config.specs.Statements as s

abbrev pub item_view : Item → s.Item
item_view (Value c v) = s.Value c (tree_of v)
item_view (Replaces c op) = s.Replaces c op

abbrev pub statement_view : Statement → s.Statement
statement_view (Specification p w) = s.Specification p w
statement_view (Init p w) = s.Init p w
statement_view (Next p w) = s.Next p w
statement_view (Invariants p ws) = s.Invariants p ws.items
statement_view (Constraints p ws) = s.Constraints p ws.items
statement_view (Constants p is) = s.Constants p (map item_view is.items)
statement_view (CheckDeadlock p check) = s.CheckDeadlock p check

-- its statements, and the place of the text's end
pub record ConfigTree : Type 0 where
  pub statements : List s.Statement
  pub end : Place
