-- Names, and places in the text.
use Rattle.std.specs.Prelude.{ℕ, Bool, List, [], ◌∷◌, map, codes}
use Rattle.std.specs.List.{list_any}
use Rattle.std.specs.Str.{bytes_eq}
use Rattle.tla_tree.specs.declared.word.Written.{Written}

-- the bytes of a word
abbrev pub Name : Type 0
Name = List ℕ

abbrev pub is_among : Name → List Name → Bool
is_among x names = list_any (bytes_eq x) names

abbrev pub words : List Written → List Name
words ws = map (λ (w : Written). w.word) ws

-- The words that begin a statement, also those that are left out. None of them is a name.
abbrev pub statement_words : List Name
statement_words =
    codes "SPECIFICATION" ∷ codes "INIT" ∷ codes "NEXT" ∷ codes "INVARIANT" ∷ codes "INVARIANTS" ∷ codes "CONSTRAINT" ∷ codes "CONSTRAINTS"
    ∷ codes "CHECK_DEADLOCK" ∷ codes "PROPERTY" ∷ codes "PROPERTIES" ∷ codes "SYMMETRY" ∷ codes "VIEW" ∷ codes "ACTION_CONSTRAINT" ∷ codes "ACTION_CONSTRAINTS" ∷ codes "ALIAS" ∷ codes "POSTCONDITION" ∷ []
