-- The units of a module (book, chapter 15).
use Rattle.std.specs.Prelude.{ℕ, List, Option}
use Rattle.tla_lex.specs.declared.token.Place.{Place}
use Rattle.tla_tree.specs.declared.word.Written.{Written}
use Rattle.tla_tree.specs.Tree.{Tree, Definition}

-- a constant, and how many arguments it has
abbrev pub Declared : Type 0
Declared = Written × ℕ

pub data UnitTree : Type 0 where
  Separator : Place → UnitTree
  Extends : Place → List Written → UnitTree
  Variables : Place → List Written → UnitTree
  -- Op == e
  Operator : Written → Tree → UnitTree
  -- a definition with parameters, or of a function
  Defines : Definition → UnitTree
  -- LOCAL before a definition
  Local : Place → Definition → UnitTree
  Constants : Place → List Declared → UnitTree
  -- with a name, or without
  Assume : Place → Option Written → Tree → UnitTree
  Theorem : Place → Option Written → Tree → UnitTree
