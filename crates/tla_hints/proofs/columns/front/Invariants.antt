use Rattle.std.proofs.Common.{◌≡◌, ◌<◌, ℕ, take}
use Rattle.tla_hints.specs.Columns.{column_behind}
use Rattle.tla_hints.proofs.columns.front.Given as goal

abbrev pub invariant-loop-index : goal.invariant-loop-index
invariant-loop-index l = record {
  here : l.at ≡ column_behind (take l.index l.line);
  before : (k : ℕ) → k < l.index → column_behind (take k l.line) < l.column;
}
