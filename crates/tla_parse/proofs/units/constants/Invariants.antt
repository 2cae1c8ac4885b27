use Rattle.std.proofs.Common.{◌≡◌, ◌-◌, length, map, []}
use Rattle.tla_tree.specs.UnitsView.{declared}
use Rattle.tla_parse.specs.Private.UnitsReading.{constants}
use Rattle.tla_parse.proofs.units.constants.Given as goal

abbrev pub invariant-loop-turn : goal.invariant-loop-turn
invariant-loop-turn l =
    constants l.text l.tokens (length l.tokens - l._turn) (map declared l.declarations.items) l.at ≡ constants l.text l.tokens (length l.tokens) [] l.fn.from
