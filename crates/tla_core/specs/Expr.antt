-- Expressions after expansion: definitions are gone, and only variables have primes. Each node has the place of its
-- text. (Book, chapters 15 and 16.)
use Rattle.std.specs.Prelude.{ℕ, List}
use Rattle.tla_value.specs.Tree.{Tree}
use Rattle.tla_core.specs.Fault.{Place}
use Rattle.tla_core.specs.declared.expression.Opening.{Opening}

-- operators on one value
pub data Unary : Type 0 where
  Not : Unary
  Negate : Unary
  Union : Unary
  Domain : Unary
  Field : (name : List ℕ) → Unary
  Len : Unary
  Head : Unary
  Tail : Unary
  IsFinite : Unary
  Cardinality : Unary

-- operators on two values
pub data Binary : Type 0 where
  Iff : Binary
  Unequal : Binary
  Add : Binary
  Subtract : Binary
  Multiply : Binary
  Divide : Binary
  Modulo : Binary
  Power : Binary
  LessThan : Binary
  GreaterThan : Binary
  AtMost : Binary
  AtLeast : Binary
  Range : Binary
  Apply : Binary
  Single : Binary
  Override : Binary
  Concat : Binary
  Append : Binary

-- the sets of all values of one kind: Nat, Int, STRING
pub data Kind : Type 0 where
  Naturals : Kind
  Integers : Kind
  Strings : Kind

mutual
  pub data Expr : Type 0 where
    -- leaves: a value, a bound name (the outermost is 0), a variable now and next
    constant : Place → Tree → Expr
    bound : Place → ℕ → Expr
    now : Place → ℕ → Expr
    next : Place → ℕ → Expr
    -- operators whose operands are all evaluated
    unary : Place → Unary → Expr → Expr
    binary : Place → Binary → Expr → Expr → Expr
    equal : Place → Expr → Expr → Expr
    sub_seq : Place → Expr → Expr → Expr → Expr
    enumerated : Place → Exprs → Expr
    tuple : Place → Exprs → Expr
    record_of : Place → Fields → Expr
    -- logic
    conjunction : Place → Exprs → Expr
    disjunction : Place → Exprs → Expr
    implies : Place → Expr → Expr → Expr
    conditional : Place → Expr → Expr → Expr → Expr
    cases : Place → Arms → Expr
    assert : Place → Expr → Expr → Expr
    -- one bound name: its set, and the body
    for_all : Place → Expr → Expr → Expr
    for_some : Place → Expr → Expr → Expr
    choose : Place → Expr → Expr → Expr
    -- several bound names: their sets, and what is evaluated for each choice
    image : Place → Exprs → Expr → Expr
    function : Place → Exprs → Expr → Expr
    except : Place → Expr → Updates → Expr
    -- membership
    member : Place → Expr → Expr → Expr
    not_member : Place → Expr → Expr → Expr
    subset : Place → Expr → Expr → Expr
    -- sets with a rule of their own for membership
    kind_set : Place → Kind → Expr
    booleans : Place → Expr
    sequences : Place → Expr → Expr
    power : Place → Expr → Expr
    functions : Place → Expr → Expr → Expr
    records : Place → Fields → Expr
    product : Place → Exprs → Expr
    cup : Place → Expr → Expr → Expr
    cap : Place → Expr → Expr → Expr
    minus : Place → Expr → Expr → Expr
    filtered : Place → Expr → Expr → Expr
    -- tuple patterns: a body under the items of destructured elements, and a set whose elements must fit the pattern
    opened : Place → List Opening → Expr → Expr
    tried : Place → ℕ → Expr → Expr

  pub data Exprs : Type 0 where
    no_exprs : Exprs
    more_exprs : Expr → Exprs → Exprs

  -- fields with their names
  pub data Fields : Type 0 where
    no_fields : Fields
    more_fields : List ℕ → Expr → Fields → Fields

  -- the arms of a CASE, which may end in OTHER
  pub data Arms : Type 0 where
    no_arms : Arms
    other : Expr → Arms
    more_arms : Expr → Expr → Arms → Arms

  -- the updates of an EXCEPT: the keys of the path, and the new value, in which `@` is the next bound name
  pub data Updates : Type 0 where
    no_updates : Updates
    more_updates : Exprs → Expr → Updates → Updates
