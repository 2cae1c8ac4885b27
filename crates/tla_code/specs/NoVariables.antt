-- Expressions that mention no variable, primed or not. They may mention bound names. (Book, chapter 16: their level is
-- constant.)
use Rattle.std.specs.Prelude.{◌≡◌, ℕ, List}
use Rattle.std.specs.List.{All}
use Rattle.std.proofs.Common.{Vec, Bor, Global}
use Rattle.tla_core.specs.Expr.{Expr, Exprs, Fields, Arms, Updates, constant, bound, now, next, unary, binary, equal, sub_seq, enumerated, tuple, record_of, conjunction, disjunction, implies, conditional, cases, assert, for_all, for_some, choose, image, function, except, member, not_member, subset, kind_set, booleans, sequences, power, functions, records, product, cup, cap, minus, filtered, opened, tried, no_exprs, more_exprs, no_fields, more_fields, no_arms, other, more_arms, no_updates, more_updates}
use Rattle.tla_code.specs.CodeExpr.{Scope, expr_in, code_expr}
use Rattle.tla_code.specs.declared.code.Code.{Code}

abbrev mutual
  pub HasNoVariables : Expr → Type 0
  HasNoVariables (constant p v) = Unit {0}
  HasNoVariables (bound p i) = Unit {0}
  HasNoVariables (now p i) = ⊥
  HasNoVariables (next p i) = ⊥
  HasNoVariables (unary p op a) = HasNoVariables a
  HasNoVariables (binary p op a c) = HasNoVariables a × HasNoVariables c
  HasNoVariables (equal p a c) = HasNoVariables a × HasNoVariables c
  HasNoVariables (sub_seq p a c d) = HasNoVariables a × HasNoVariables c × HasNoVariables d
  HasNoVariables (enumerated p es) = HaveNoVariables es
  HasNoVariables (tuple p es) = HaveNoVariables es
  HasNoVariables (record_of p fs) = FieldsHaveNone fs
  HasNoVariables (conjunction p es) = HaveNoVariables es
  HasNoVariables (disjunction p es) = HaveNoVariables es
  HasNoVariables (implies p a c) = HasNoVariables a × HasNoVariables c
  HasNoVariables (conditional p a c d) = HasNoVariables a × HasNoVariables c × HasNoVariables d
  HasNoVariables (cases p arms) = ArmsHaveNone arms
  HasNoVariables (assert p a c) = HasNoVariables a × HasNoVariables c
  HasNoVariables (for_all p a e) = HasNoVariables a × HasNoVariables e
  HasNoVariables (for_some p a e) = HasNoVariables a × HasNoVariables e
  HasNoVariables (choose p a e) = HasNoVariables a × HasNoVariables e
  HasNoVariables (image p es e) = HaveNoVariables es × HasNoVariables e
  HasNoVariables (function p es e) = HaveNoVariables es × HasNoVariables e
  HasNoVariables (except p a us) = HasNoVariables a × UpdatesHaveNone us
  HasNoVariables (member p a c) = HasNoVariables a × HasNoVariables c
  HasNoVariables (not_member p a c) = HasNoVariables a × HasNoVariables c
  HasNoVariables (subset p a c) = HasNoVariables a × HasNoVariables c
  HasNoVariables (kind_set p k) = Unit {0}
  HasNoVariables (booleans p) = Unit {0}
  HasNoVariables (sequences p a) = HasNoVariables a
  HasNoVariables (power p a) = HasNoVariables a
  HasNoVariables (functions p a c) = HasNoVariables a × HasNoVariables c
  HasNoVariables (records p fs) = FieldsHaveNone fs
  HasNoVariables (product p es) = HaveNoVariables es
  HasNoVariables (cup p a c) = HasNoVariables a × HasNoVariables c
  HasNoVariables (cap p a c) = HasNoVariables a × HasNoVariables c
  HasNoVariables (minus p a c) = HasNoVariables a × HasNoVariables c
  HasNoVariables (filtered p a e) = HasNoVariables a × HasNoVariables e
  HasNoVariables (opened p os e) = HasNoVariables e
  HasNoVariables (tried p k a) = HasNoVariables a

  pub HaveNoVariables : Exprs → Type 0
  HaveNoVariables no_exprs = Unit {0}
  HaveNoVariables (more_exprs e es) = HasNoVariables e × HaveNoVariables es

  pub FieldsHaveNone : Fields → Type 0
  FieldsHaveNone no_fields = Unit {0}
  FieldsHaveNone (more_fields name e fs) = HasNoVariables e × FieldsHaveNone fs

  pub ArmsHaveNone : Arms → Type 0
  ArmsHaveNone no_arms = Unit {0}
  ArmsHaveNone (other e) = HasNoVariables e
  ArmsHaveNone (more_arms c e arms) = HasNoVariables c × HasNoVariables e × ArmsHaveNone arms

  pub UpdatesHaveNone : Updates → Type 0
  UpdatesHaveNone no_updates = Unit {0}
  UpdatesHaveNone (more_updates keys e us) = HaveNoVariables keys × HasNoVariables e × UpdatesHaveNone us

-- A code that mentions no variable, and denotes the same expression in every scope of definitions.
abbrev pub IsClosed : Code → Type 0
IsClosed c = HasNoVariables (code_expr c) × ((scope : Scope) → expr_in scope c ≡ code_expr c)

abbrev pub FieldIsClosed : Bor (List ℕ) × Code → Type 0
FieldIsClosed f = IsClosed f.1

abbrev pub UpdateIsClosed : Vec Code Global × Code → Type 0
UpdateIsClosed u = All IsClosed u.0.items × IsClosed u.1
