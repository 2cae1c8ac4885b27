-- Modules and configurations written out, with the models that they name.
use Rattle.std.specs.Prelude.{ℕ, pos, true, false, Bool, List, [], ◌∷◌, codes}
use Rattle.tla_lex.specs.declared.token.Place.{Place}
use Rattle.tla_value.specs.Tree as value
use Rattle.tla_core.specs.Expr.{Expr, constant, now, next, binary, equal, conjunction, no_exprs, more_exprs}
use Rattle.tla_core.specs.Expr as e
use Rattle.tla_tree.specs.declared.word.Written.{Written}
use Rattle.tla_tree.specs.declared.tree.Infix.TheVariants as op
use Rattle.tla_tree.specs.Tree.{Tree, Name, Number, Paren, Prime, Binary}
use Rattle.tla_tree.specs.Units.{UnitTree, Extends, Variables, Operator}
use Rattle.tla_scopes.specs.Places.{place_of}
use Rattle.tla_config.specs.Statements.{Statement, CheckDeadlock}
use Rattle.tla_config.specs.Statements as s
use Rattle.tla_model.specs.ModelTree.{ModelTree}
use Rattle.tla_defs.specs.Model.{IsModel}

abbrev pub place : ℕ → ℕ → Place
place line column = record { line = line; column = column }

abbrev pub word : ℕ → ℕ → List ℕ → Written
word line column w = record { place = place line column; word = w }

-- the variable x and a number, at a line and a column
abbrev pub x_at : ℕ → ℕ → Tree
x_at line column = Name (word line column (codes "x"))

abbrev pub number_at : ℕ → ℕ → ℕ → Tree
number_at line column n = Number (place line column) n

abbrev pub constant_at : ℕ → ℕ → ℕ → Expr
constant_at line column n = constant (place_of (place line column)) (value.int (pos n))

abbrev pub now_at : ℕ → ℕ → Expr
now_at line column = now (place_of (place line column)) 0

-- x = n in line 4
abbrev pub init_tree : ℕ → Tree
init_tree n = Binary (place 4 9) op.Equal (word 4 11 (codes "=")) (x_at 4 9) (number_at 4 13 n)

abbrev pub init_before : ℕ → Expr
init_before n = equal (place_of (place 4 9)) (now_at 4 9) (constant_at 4 13 n)

-- EXTENDS Integers, VARIABLE x, Init == x = n, and Next
abbrev pub frame : ℕ → Tree → List UnitTree → List UnitTree
frame n step us =
    Extends (place 2 1) (word 2 9 (codes "Integers") ∷ []) ∷ Variables (place 3 1) (word 3 10 (codes "x") ∷ [])
    ∷ Operator (word 4 1 (codes "Init")) (init_tree n) ∷ Operator (word 5 1 (codes "Next")) step ∷ us

-- INIT Init, NEXT Next
abbrev pub statements : List Statement → List Statement
statements cs = s.Init (place 1 1) (word 1 6 (codes "Init")) ∷ s.Next (place 2 1) (word 2 6 (codes "Next")) ∷ cs

abbrev pub model : ℕ → Expr → List (List ℕ × Expr) → Bool → ModelTree
model n step invariants check =
    record {
      variables = codes "x" ∷ [];
      assumptions = [];
      init = equal (place_of (place 4 9)) (next (place_of (place 4 9)) 0) (constant_at 4 13 n);
      next = step;
      invariants = invariants;
      constraints = [];
      check_deadlock = check;
    }

-- x' = (x + 1) % n
abbrev pub counter_tree : ℕ → Tree
counter_tree n = Binary (place 5 9) op.Equal (word 5 12 (codes "=")) (Prime (place 5 9) (x_at 5 9))
    (Binary (place 5 14) op.Remainder (word 5 22 (codes "%"))
    (Paren (place 5 14) (Binary (place 5 15) op.Plus (word 5 17 (codes "+")) (x_at 5 15) (number_at 5 19 1))) (number_at 5 24 n))

abbrev pub counter_step : ℕ → Expr
counter_step n = equal (place_of (place 5 9)) (next (place_of (place 5 9)) 0)
    (binary (place_of (place 5 14)) e.Modulo (binary (place_of (place 5 15)) e.Add (now_at 5 15) (constant_at 5 19 1)) (constant_at 5 24 n))

-- x < 3 in line 6
abbrev pub below_three_tree : Tree
below_three_tree = Binary (place 6 8) op.Less (word 6 10 (codes "<")) (x_at 6 8) (number_at 6 12 3)

abbrev pub below_three : Expr
below_three = binary (place_of (place 6 8)) e.LessThan (now_at 6 8) (constant_at 6 12 3)

-- the counter modulo 3, with INVARIANT Inv
abbrev pub CounterOfThree : Type 0
CounterOfThree = IsModel
    (frame 0 (counter_tree 3) (Operator (word 6 1 (codes "Inv")) below_three_tree ∷ []))
    (statements (s.Invariants (place 3 1) (word 3 11 (codes "Inv") ∷ []) ∷ []))
    (model 0 (counter_step 3) ((codes "Inv", below_three) ∷ []) true)

-- the counter modulo 5, with no invariant
abbrev pub CounterOfFive : Type 0
CounterOfFive = IsModel (frame 0 (counter_tree 5) []) (statements []) (model 0 (counter_step 5) [] true)

-- x < 2 /\ x' = x + 1
abbrev pub bounded_tree : Tree
bounded_tree = Binary (place 5 9) op.And (word 5 15 (codes "/\\"))
    (Binary (place 5 9) op.Less (word 5 11 (codes "<")) (x_at 5 9) (number_at 5 13 2))
    (Binary (place 5 18) op.Equal (word 5 21 (codes "=")) (Prime (place 5 18) (x_at 5 18))
    (Binary (place 5 23) op.Plus (word 5 25 (codes "+")) (x_at 5 23) (number_at 5 27 1)))

abbrev pub bounded_step : Expr
bounded_step = conjunction (place_of (place 5 9)) (more_exprs (binary (place_of (place 5 9)) e.LessThan (now_at 5 9) (constant_at 5 13 2))
    (more_exprs (equal (place_of (place 5 18)) (next (place_of (place 5 18)) 0) (binary (place_of (place 5 23)) e.Add (now_at 5 23) (constant_at 5 27 1))) no_exprs))

-- a model in which deadlock is looked for, and one with CHECK_DEADLOCK FALSE
abbrev pub BoundedSteps : Type 0
BoundedSteps = IsModel (frame 0 bounded_tree []) (statements []) (model 0 bounded_step [] true)

abbrev pub BoundedStepsMayEnd : Type 0
BoundedStepsMayEnd = IsModel (frame 0 bounded_tree []) (statements (CheckDeadlock (place 3 1) false ∷ [])) (model 0 bounded_step [] false)

-- x' = x + 1
abbrev pub plus_tree : Tree
plus_tree = Binary (place 5 9) op.Equal (word 5 12 (codes "=")) (Prime (place 5 9) (x_at 5 9))
    (Binary (place 5 14) op.Plus (word 5 16 (codes "+")) (x_at 5 14) (number_at 5 18 1))

abbrev pub plus_step : Expr
plus_step = equal (place_of (place 5 9)) (next (place_of (place 5 9)) 0) (binary (place_of (place 5 14)) e.Add (now_at 5 14) (constant_at 5 18 1))

-- counting on as long as Con, which is x < 3, is TRUE
abbrev pub CountsWithin : Type 0
CountsWithin = IsModel
    (frame 0 plus_tree (Operator (word 6 1 (codes "Con")) below_three_tree ∷ []))
    (statements (s.Constraints (place 3 1) (word 3 12 (codes "Con") ∷ []) ∷ []))
    (record (model 0 plus_step [] true) { constraints = (codes "Con", below_three) ∷ [] })

-- the largest number, from which one is counted on
abbrev pub LargestNumber : Type 0
LargestNumber = IsModel (frame 9223372036854775807 plus_tree []) (statements []) (model 9223372036854775807 plus_step [] true)
