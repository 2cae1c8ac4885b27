use Rattle.std.proofs.Common.{◌≡◌, ◌||◌, ◌==◌, IsTrue, take}
use Rattle.std.specs.List.{All}
use Rattle.tla_hints.specs.Columns.{column_behind}
use Rattle.tla_hints.proofs.columns.blanks.Given as goal

abbrev pub invariant-loop-byte : goal.invariant-loop-byte
invariant-loop-byte l = record {
  behind : column_behind l.blanks.items ≡ column_behind (take l.byte-index l.front);
  blank : All (λ b. IsTrue (b == 32 || b == 9)) l.blanks.items;
}
