use Rattle.std.proofs.Common.{Ok, take}
use Rattle.std.specs.List.{flat_map}
use Rattle.counted_writer.specs.Puts.{Puts}
use Rattle.tla_value.specs.Text.{escaped}
use Rattle.tla_value.proofs.show.put_quoted.Given as goal

abbrev pub invariant-loop-byte : goal.invariant-loop-byte
invariant-loop-byte g l = Puts (g.W.Write.contents l.initial.out) (g.W.Write.contents l.out) l.initial.written (flat_map escaped (take l.byte-index l.bytes)) (Ok l.written)
