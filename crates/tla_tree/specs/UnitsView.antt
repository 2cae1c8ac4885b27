-- The mathematical value of units in memory.
use Rattle.std.specs.Prelude.{map}
use Rattle.tla_tree.specs.declared.unit.Unit.{Unit}
use Rattle.tla_tree.specs.declared.unit.Unit.TheVariants.{Separator, Extends, Variables, Operator, Defines, Local, Constants, Assume, Theorem}
use Rattle.tla_tree.specs.declared.unit.Declaration.{Declaration}
use Rattle.tla_tree.specs.View.{view, definition_view}
use Rattle.tla_tree.specs.Units.{UnitTree}
use Rattle.tla_tree.specs.Units as u

abbrev pub declared : Declaration → u.Declared
declared d = (d.name, d.arity)

abbrev pub unit_view : Unit → UnitTree
unit_view (Separator p) = u.Separator p
unit_view (Extends p ws) = u.Extends p ws.items
unit_view (Variables p ws) = u.Variables p ws.items
unit_view (Operator w e) = u.Operator w (view e)
unit_view (Defines d) = u.Defines (definition_view d)
unit_view (Local p d) = u.Local p (definition_view d)
unit_view (Constants p ds) = u.Constants p (map declared ds.items)
unit_view (Assume p w e) = u.Assume p w (view e)
unit_view (Theorem p w e) = u.Theorem p w (view e)
