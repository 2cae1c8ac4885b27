use Rattle.std.proofs.Common.{◌≡◌, drop}
use Rattle.std.specs.List.{list_all}
use Rattle.tla_value.specs.TextNames.{is_word_byte}
use Rattle.tla_value.proofs.show.has_word_bytes.Given as goal

abbrev pub invariant-loop-byte : goal.invariant-loop-byte
invariant-loop-byte l = list_all is_word_byte (drop l.byte-index l.bytes) ≡ list_all is_word_byte l.bytes
