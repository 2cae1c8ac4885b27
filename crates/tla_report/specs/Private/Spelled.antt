-- The bytes of a name.
use Rattle.std.specs.Prelude.{ℕ, List}
use Rattle.tla_report.specs.declared.checked.Spelling.{Spelling}
use Rattle.tla_report.specs.declared.checked.Spelling.TheVariants.{Bytes, Text}

abbrev pub spelled : Spelling → List ℕ
spelled (Bytes bytes) = bytes.items
spelled (Text text) = text
