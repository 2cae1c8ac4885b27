-- The expression of a core, without pointers, and with values as trees.
use Rattle.std.specs.Prelude.{ℕ, ◌+◌, Bool, ◌&&◌, List, [], ◌∷◌, map}
use Rattle.std.specs.List.{list_all}
use Rattle.std.proofs.Common.{Vec, Global}
use Rattle.tla_value.specs.TreeOf.{tree_of}
use Rattle.tla_core.specs.Meaning.{Meaning}
use Rattle.tla_core.specs.Value.{means}
use Rattle.tla_core.specs.Fits.{fits}
use Rattle.tla_core.specs.LiteralOf.{literal_of}
use Rattle.tla_core.specs.Expr.{Expr, Exprs, Fields, Arms, Updates, constant, bound, now, next, unary, binary, equal, sub_seq, enumerated, tuple, record_of, conjunction, disjunction, implies, conditional, cases, assert, for_all, for_some, choose, image, function, except, member, not_member, subset, kind_set, booleans, sequences, power, functions, records, product, cup, cap, minus, filtered, opened, tried, no_exprs, more_exprs, no_fields, more_fields, no_arms, other, more_arms, no_updates, more_updates}
use Rattle.tla_core.specs.Expr as expr
use Rattle.tla_core.specs.declared.expression.Unary.{Unary}
use Rattle.tla_core.specs.declared.expression.Unary.TheVariants.{Not, Negate, Union, Domain, Len, Head, Tail, IsFinite, Cardinality}
use Rattle.tla_core.specs.declared.expression.Binary.{Binary}
use Rattle.tla_core.specs.declared.expression.Binary.TheVariants.{Iff, Unequal, Add, Subtract, Multiply, Divide, Modulo, Power, LessThan, GreaterThan, AtMost, AtLeast, Range, Single, Override, Concat, Append}
use Rattle.tla_core.specs.declared.expression.Kind.{Kind}
use Rattle.tla_core.specs.declared.expression.Kind.TheVariants.{Naturals, Integers, Strings}
use Rattle.tla_core.specs.declared.expression.Core.{Core, Row_of-Core, end_of-Core, more_of-Core, Row_of-Core-Record-1-2, end_of-Core-Record-1-2, more_of-Core-Record-1-2, Row_of-Core-Cases-1-2, end_of-Core-Cases-1-2, more_of-Core-Cases-1-2, Row_of-Core-Except-2-3, end_of-Core-Except-2-3, more_of-Core-Except-2-3, Held-Core-Cases-2, None', Some'}
use Rattle.tla_core.specs.declared.expression.Core.TheVariants.{Constant, Bound, Now, Next, Unary', Binary', Apply', Equal', Field', SubSeq', Enumerated', Tuple', Record', Conjunction', Disjunction', Implies', If', Cases', Assert', ForAll', ForSome', Choose', Image', Function', Member', NotMember', Subset', KindSet, Booleans, Sequences', Power', Functions', Records', Product', Cup', Cap', Minus', Filter', Except', Destructure', CheckPattern', Literal}

-- the operators
abbrev pub unary_of : Unary → expr.Unary
unary_of Not = expr.Not
unary_of Negate = expr.Negate
unary_of Union = expr.Union
unary_of Domain = expr.Domain
unary_of Len = expr.Len
unary_of Head = expr.Head
unary_of Tail = expr.Tail
unary_of IsFinite = expr.IsFinite
unary_of Cardinality = expr.Cardinality

abbrev pub binary_of : Binary → expr.Binary
binary_of Iff = expr.Iff
binary_of Unequal = expr.Unequal
binary_of Add = expr.Add
binary_of Subtract = expr.Subtract
binary_of Multiply = expr.Multiply
binary_of Divide = expr.Divide
binary_of Modulo = expr.Modulo
binary_of Power = expr.Power
binary_of LessThan = expr.LessThan
binary_of GreaterThan = expr.GreaterThan
binary_of AtMost = expr.AtMost
binary_of AtLeast = expr.AtLeast
binary_of Range = expr.Range
binary_of Single = expr.Single
binary_of Override = expr.Override
binary_of Concat = expr.Concat
binary_of Append = expr.Append

abbrev pub kind_of : Kind → expr.Kind
kind_of Naturals = expr.Naturals
kind_of Integers = expr.Integers
kind_of Strings = expr.Strings

abbrev mutual
  pub expr_of : Core → Expr
  expr_of (Constant at v) = constant at (tree_of v)
  expr_of (Bound at i) = bound at i
  expr_of (Now at i) = now at i
  expr_of (Next at i) = next at i
  expr_of (Unary' at op _ a) = unary at (unary_of op) (expr_of a)
  expr_of (Binary' at op _ a _ c) = binary at (binary_of op) (expr_of a) (expr_of c)
  expr_of (Apply' at _ a _ c) = binary at expr.Apply (expr_of a) (expr_of c)
  expr_of (Equal' at _ a _ c) = equal at (expr_of a) (expr_of c)
  expr_of (Field' at name _ a) = unary at (expr.Field name) (expr_of a)
  expr_of (SubSeq' at _ a _ c _ d) = sub_seq at (expr_of a) (expr_of c) (expr_of d)
  expr_of (Enumerated' at _ parts) = enumerated at (exprs_of parts)
  expr_of (Tuple' at _ parts) = tuple at (exprs_of parts)
  expr_of (Record' at _ fields) = record_of at (fields_of fields)
  expr_of (Conjunction' at _ parts) = conjunction at (exprs_of parts)
  expr_of (Disjunction' at _ parts) = disjunction at (exprs_of parts)
  expr_of (Implies' at _ a _ c) = implies at (expr_of a) (expr_of c)
  expr_of (If' at _ a _ c _ d) = conditional at (expr_of a) (expr_of c) (expr_of d)
  expr_of (Cases' at _ arms last) = cases at (arms_of arms (last_of last))
  expr_of (Assert' at _ a _ c) = assert at (expr_of a) (expr_of c)
  expr_of (ForAll' at _ a _ e) = for_all at (expr_of a) (expr_of e)
  expr_of (ForSome' at _ a _ e) = for_some at (expr_of a) (expr_of e)
  expr_of (Choose' at _ a _ e) = choose at (expr_of a) (expr_of e)
  expr_of (Image' at _ sets _ e) = image at (exprs_of sets) (expr_of e)
  expr_of (Function' at _ sets _ e) = function at (exprs_of sets) (expr_of e)
  expr_of (Except' at _ f _ updates) = except at (expr_of f) (updates_of updates)
  expr_of (Member' at _ a _ c) = member at (expr_of a) (expr_of c)
  expr_of (NotMember' at _ a _ c) = not_member at (expr_of a) (expr_of c)
  expr_of (Subset' at _ a _ c) = subset at (expr_of a) (expr_of c)
  expr_of (KindSet at k) = kind_set at (kind_of k)
  expr_of (Booleans at) = booleans at
  expr_of (Sequences' at _ a) = sequences at (expr_of a)
  expr_of (Power' at _ a) = power at (expr_of a)
  expr_of (Functions' at _ a _ c) = functions at (expr_of a) (expr_of c)
  expr_of (Records' at _ fields) = records at (fields_of fields)
  expr_of (Product' at _ parts) = product at (exprs_of parts)
  expr_of (Cup' at _ a _ c) = cup at (expr_of a) (expr_of c)
  expr_of (Cap' at _ a _ c) = cap at (expr_of a) (expr_of c)
  expr_of (Minus' at _ a _ c) = minus at (expr_of a) (expr_of c)
  expr_of (Filter' at _ a _ e) = filtered at (expr_of a) (expr_of e)
  expr_of (Destructure' at openings _ e) = opened at openings.items (expr_of e)
  expr_of (CheckPattern' at count _ a) = tried at count (expr_of a)
  expr_of (Literal l) = literal_of l

  pub exprs_of : {m : _} → Row_of-Core m → Exprs
  exprs_of end_of-Core = no_exprs
  exprs_of (more_of-Core e rest) = more_exprs (expr_of e) (exprs_of rest)

  pub fields_of : {m : _} → Row_of-Core-Record-1-2 m → Fields
  fields_of end_of-Core-Record-1-2 = no_fields
  fields_of (more_of-Core-Record-1-2 name e rest) = more_fields name (expr_of e) (fields_of rest)

  pub arms_of : {m : _} → Row_of-Core-Cases-1-2 m → Arms → Arms
  arms_of end_of-Core-Cases-1-2 last = last
  arms_of (more_of-Core-Cases-1-2 c e rest) last = more_arms (expr_of c) (expr_of e) (arms_of rest last)

  pub updates_of : {m : _} → Row_of-Core-Except-2-3 m → Updates
  updates_of end_of-Core-Except-2-3 = no_updates
  updates_of (more_of-Core-Except-2-3 _ keys e rest) = more_updates (exprs_of keys) (expr_of e) (updates_of rest)

  pub last_of : Held-Core-Cases-2 → Arms
  last_of None' = no_arms
  last_of (Some' _ e) = other (expr_of e)

-- the meanings of the parts of a list
abbrev pub parts_of_cores : List Core → List Meaning
parts_of_cores [] = []
parts_of_cores (c ∷ cs) = means (expr_of c) ∷ parts_of_cores cs

abbrev pub fields_of_cores : List (List ℕ × Core) → List (List ℕ × Meaning)
fields_of_cores fs = map (λ (f : List ℕ × Core). (f.0, means (expr_of f.1))) fs

-- the expressions of an arm, and the meanings of a list of arms
abbrev pub exprs_of_arm : (Core × Core) → Expr × Expr
exprs_of_arm a = (expr_of a.0, expr_of a.1)

abbrev pub arms_of_cores : List (Core × Core) → List (Meaning × Meaning)
arms_of_cores [] = []
arms_of_cores (a ∷ arms) = (means (expr_of a.0), means (expr_of a.1)) ∷ arms_of_cores arms

-- the keys and the new value of an update, and the meanings of a list of updates
abbrev pub updates_of_cores : List (Vec Core Global × Core) → List (List Meaning × Meaning)
updates_of_cores [] = []
updates_of_cores (u ∷ us) = (parts_of_cores u.0.items, means (expr_of u.1)) ∷ updates_of_cores us

-- whether the names and variables of an update exist; `@` is one more name
abbrev pub update_fits : ℕ → ℕ → Bool → (Vec Core Global × Core) → Bool
update_fits b n s u = list_all (λ (e : Expr). fits e b n s) (map expr_of u.0.items) && fits (expr_of u.1) (b + 1) n s
