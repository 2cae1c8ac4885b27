-- Trees of syntax as the grammar sees them: no memory, and lists of their own.
use Rattle.std.specs.Prelude.{ℕ, List, [], ◌∷◌}
use Rattle.tla_lex.specs.declared.token.Place.{Place}
use Rattle.tla_tree.specs.declared.word.Written.{Written}
use Rattle.tla_tree.specs.declared.tree.Infix.{Infix}
use Rattle.tla_tree.specs.declared.tree.Prefix.{Prefix}
use Rattle.tla_tree.specs.declared.tree.Bullet.{Bullet}
use Rattle.tla_tree.specs.declared.tree.Quantifier.{Quantifier}
use Rattle.tla_tree.specs.declared.tree.Constant.{Constant}
use Rattle.tla_tree.specs.declared.tree.Brackets.{Brackets}
use Rattle.tla_tree.specs.declared.tree.Step.{Step}
use Rattle.tla_tree.specs.declared.tree.Fairness.{Fairness}

-- What an entry of a binder has before `\in`.
pub data Pattern : Type 0 where
  -- x, y: each name is an element
  Each : List Written → Pattern
  -- <<x, y>>: the names are the items of an element
  Tuple : List Written → Pattern

-- its names, in the order of the text
abbrev pub names_of : Pattern → List Written
names_of (Each ws) = ws
names_of (Tuple ws) = ws

mutual
  -- an expression (book, chapter 15); each node has the place of its first token
  pub data Tree : Type 0 where
    Name : Written → Tree
    Number : Place → ℕ → Tree
    -- a string, with its escapes read
    Text : Place → List ℕ → Tree
    Word : Place → Constant → Tree
    At : Place → Tree
    Paren : Place → Tree → Tree
    -- {e, ..} or <<e, ..>>
    Listing : Place → Brackets → Trees → Tree
    -- Op(e, ..)
    Call : Written → Trees → Tree
    Prime : Place → Tree → Tree
    -- f[e, ..]
    Index : Place → Tree → Trees → Tree
    -- r.a
    Field : Place → Tree → Written → Tree
    Unary : Place → Prefix → Tree → Tree
    Binary : Place → Infix → Written → Tree → Tree → Tree
    Quantified : Place → Quantifier → Binders → Tree → Tree
    -- CHOOSE x \in S : p
    Choose : Place → Pattern → Tree → Tree → Tree
    If : Place → Tree → Tree → Tree → Tree
    -- CASE p -> a [] .. [] OTHER -> b
    Case : Place → Arms → Other → Tree
    -- LET definitions IN e
    Let : Place → Definitions → Tree → Tree
    Junction : Place → Bullet → Trees → Tree
    -- {x \in S : p}
    Filter : Place → Pattern → Tree → Tree → Tree
    -- {e : x, y \in S}
    Image : Place → Tree → Binders → Tree
    -- [x, y \in S |-> e]
    Function : Place → Binders → Tree → Tree
    -- [S -> T]
    FunctionSet : Place → Tree → Tree → Tree
    -- [a |-> e, ..]
    Record : Place → Fields → Tree
    -- [a : S, ..]
    RecordSet : Place → Fields → Tree
    -- [f EXCEPT !p = e, ..]
    Except : Place → Tree → Updates → Tree
    -- [A]_v or <<A>>_v
    Action : Place → Step → Tree → Tree → Tree
    -- WF_v(A) or SF_v(A)
    Fair : Place → Fairness → Tree → Tree → Tree
    -- a \X b \X ..: the first, and the others
    Product : Place → Tree → Trees → Tree

  pub data Trees : Type 0 where
    none : Trees
    more : Tree → Trees → Trees

  -- the entries of a binder list, x, y \in S or <<x, y>> \in S
  pub data Binders : Type 0 where
    unbound : Binders
    bound : Pattern → Tree → Binders → Binders

  -- p -> e
  pub data Arms : Type 0 where
    no_arms : Arms
    arm : Tree → Tree → Arms → Arms

  -- OTHER -> e
  pub data Other : Type 0 where
    no_other : Other
    other : Tree → Other

  -- Op(p, ..) == e, with no parameters or some, and f[x \in S, ..] == e
  pub data Definition : Type 0 where
    DefinesOperator : Written → List Written → Tree → Definition
    DefinesFunction : Written → Binders → Tree → Definition

  pub data Definitions : Type 0 where
    undefined : Definitions
    defined : Definition → Definitions → Definitions

  -- a |-> e, or a : S
  pub data Fields : Type 0 where
    no_fields : Fields
    field : Written → Tree → Fields → Fields

  -- a step of a path, [e, ..] or .a
  pub data Key : Type 0 where
    AtIndex : Trees → Key
    AtField : Written → Key

  pub data Keys : Type 0 where
    no_keys : Keys
    key : Key → Keys → Keys

  -- !p = e
  pub data Updates : Type 0 where
    no_updates : Updates
    update : Keys → Tree → Updates → Updates

abbrev pub trees : List Tree → Trees
trees [] = none
trees (t ∷ ts) = more t (trees ts)

-- an entry of a binder: what comes before `\in`, and the set
abbrev pub Group : Type 0
Group = Pattern × Tree

abbrev pub binders : List Group → Binders
binders [] = unbound
binders (g ∷ gs) = bound g.0 g.1 (binders gs)

-- the condition and the value of one arm
abbrev pub Choice : Type 0
Choice = Tree × Tree

abbrev pub arms : List Choice → Arms
arms [] = no_arms
arms (c ∷ cs) = arm c.0 c.1 (arms cs)

abbrev pub definitions : List Definition → Definitions
definitions [] = undefined
definitions (d ∷ ds) = defined d (definitions ds)

-- the name and the value of one field
abbrev pub Entry : Type 0
Entry = Written × Tree

abbrev pub fields : List Entry → Fields
fields [] = no_fields
fields (e ∷ es) = field e.0 e.1 (fields es)

abbrev pub keys : List Key → Keys
keys [] = no_keys
keys (k ∷ ks) = key k (keys ks)

-- the path and the value of one update
abbrev pub Change : Type 0
Change = Keys × Tree

abbrev pub updates : List Change → Updates
updates [] = no_updates
updates (c ∷ cs) = update c.0 c.1 (updates cs)
