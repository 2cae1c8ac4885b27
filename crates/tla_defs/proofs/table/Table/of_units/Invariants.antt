use Rattle.std.proofs.Common.{◌≡◌, ◌≤◌, ◌+◌, false, length, map}
use Rattle.tla_tree.specs.UnitsView.{unit_view}
use Rattle.tla_config.specs.Names.{Name}
use Rattle.tla_names.specs.Maybe.{or_else}
use Rattle.tla_defs.specs.Bodies.{body_in}
use Rattle.tla_defs.specs.Private.Table.{body_at, found_at}
use Rattle.tla_defs.proofs.table.Table.of_units.Given as goal

abbrev pub invariant-loop-left : goal.invariant-loop-left
invariant-loop-left l = record {
  bodies : (x : Name) → body_in (map unit_view l.units) x ≡ or_else (body_at l.table.definitions.entries x) (body_in (map unit_view l.left) x);
  found : (x : Name) → found_at l.table.definitions.entries x ≡ false;
  many : length l.table.definitions.entries + length l.left ≤ length l.units;
}

abbrev pub decreases-loop-left : goal.decreases-loop-left
decreases-loop-left l = length l.left
