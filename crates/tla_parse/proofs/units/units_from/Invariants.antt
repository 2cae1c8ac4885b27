use Rattle.std.proofs.Common.{◌≡◌, ◌-◌, ◌≤◌, length, map, [], true}
use Rattle.tla_parse.specs.Units.{units_depth}
use Rattle.tla_grammar.specs.LeftOut.{OnlySeparators}
use Rattle.tla_tree.specs.UnitsView.{unit_view}
use Rattle.tla_tree.specs.declared.tree.TheConstants.{MAX_DEPTH}
use Rattle.tla_parse.specs.Private.UnitsReading.{units}
use Rattle.tla_parse.proofs.units.units_from.Given as goal

abbrev pub invariant-loop-turn : goal.invariant-loop-turn
invariant-loop-turn l = record {
  same : units l.text l.tokens MAX_DEPTH (length l.tokens - l._turn) (map unit_view l.units.items) l.first l.at ≡ units l.text l.tokens MAX_DEPTH (length l.tokens) [] true l.fn.from;
  separated : l.first ≡ true → OnlySeparators l.tokens l.at;
  shallow : units_depth (map unit_view l.units.items) ≤ MAX_DEPTH;
}
