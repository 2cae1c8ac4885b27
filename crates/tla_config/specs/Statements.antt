-- What a configuration says, statement by statement (book, chapter 14; CHECK_DEADLOCK: this project's own choice).
use Rattle.std.specs.Prelude.{Bool, false, not, List, []}
use Rattle.std.specs.List.{list_any, flat_map}
use Rattle.tla_lex.specs.declared.token.Place.{Place}
use Rattle.tla_tree.specs.declared.word.Written.{Written}
use Rattle.tla_value.specs.Tree.{Tree}

-- an item of CONSTANT
pub data Item : Type 0 where
  -- `c = value`
  Value : Written → Tree → Item
  -- `c <- Op`
  Replaces : Written → Written → Item

-- a statement, with the place of its first word
pub data Statement : Type 0 where
  -- SPECIFICATION name
  Specification : Place → Written → Statement
  -- INIT name, NEXT name
  Init : Place → Written → Statement
  Next : Place → Written → Statement
  -- INVARIANT name ..
  Invariants : Place → List Written → Statement
  -- CONSTRAINT name ..
  Constraints : Place → List Written → Statement
  -- CONSTANT item ..
  Constants : Place → List Item → Statement
  -- CHECK_DEADLOCK TRUE or FALSE
  CheckDeadlock : Place → Bool → Statement

abbrev pub constant_items : Statement → List Item
constant_items (Constants p is) = is
constant_items _ = []

abbrev pub leaves_deadlock : Statement → Bool
leaves_deadlock (CheckDeadlock p check) = not check
leaves_deadlock _ = false

-- the items of CONSTANT, in the order of the configuration
abbrev pub items_of : List Statement → List Item
items_of cs = flat_map constant_items cs

-- deadlock is looked for unless there is a CHECK_DEADLOCK FALSE
abbrev pub checks_deadlock : List Statement → Bool
checks_deadlock cs = not (list_any leaves_deadlock cs)
