-- Places and names.
use Rattle.std.specs.Prelude.{ℕ, List, codes}
use Rattle.tla_lex.specs.declared.token.Place as text
use Rattle.tla_core.specs.declared.fault.Place.{Place}

-- the bytes of a word
abbrev pub Name : Type 0
Name = List ℕ

-- the name of the old value in an update of EXCEPT, which no identifier is
abbrev pub at_name : Name
at_name = codes "@"

-- a place of the text, as an expression keeps it
abbrev pub place_of : text.Place → Place
place_of at = record { line = at.line; column = at.column }
