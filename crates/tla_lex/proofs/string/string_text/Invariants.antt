use Rattle.std.proofs.Common.{◌≡◌, ◌++◌, length}
use Rattle.tla_lex.specs.StringLoops.{unescaped, string_text}
use Rattle.tla_lex.proofs.string.string_text.Given as goal

abbrev pub invariant-loop-left : goal.invariant-loop-left
invariant-loop-left l = l.text.items ++ unescaped l.escaped l.left ≡ string_text l.literal

abbrev pub decreases-loop-left : goal.decreases-loop-left
decreases-loop-left l = length l.left
