-- The texts of the pieces of a line.
use Rattle.std.specs.Prelude.{ℕ, List, flat_map}
use Rattle.std.specs.Fmt.{decimal}
use Rattle.tla_value.specs.TreeOf.{tree_of}
use Rattle.tla_value.specs.Text.{text_of}
use Rattle.tla_report.specs.declared.report.Piece.{Piece}
use Rattle.tla_report.specs.declared.report.Piece.TheVariants.{Text, Bytes, Number, Value}

abbrev pub piece_text : Piece → List ℕ
piece_text (Text text) = text.now
piece_text (Bytes bytes) = bytes.now
piece_text (Number number) = decimal number
piece_text (Value value) = text_of (tree_of value.now)

abbrev pub pieces_text : List Piece → List ℕ
pieces_text pieces = flat_map piece_text pieces
