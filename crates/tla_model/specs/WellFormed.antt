-- The form of expressions, besides their names: a record form has each field once, and neither the body of a tuple pattern
-- nor a set whose elements are checked against one is right inside another, so that what recurses over an expression goes
-- no deeper than twice its depth. (This project's own choice: what an evaluation requires.)
use Rattle.std.specs.Prelude.{ℕ, Bool, true, false, not, ◌&&◌, List, [], ◌∷◌}
use Rattle.std.specs.List.{list_any}
use Rattle.std.specs.Str.{bytes_eq}
use Rattle.tla_core.specs.Expr.{Expr, Exprs, Fields, Arms, Updates, constant, bound, now, next, unary, binary, equal, sub_seq, enumerated, tuple, record_of, conjunction, disjunction, implies, conditional, cases, assert, for_all, for_some, choose, image, function, except, member, not_member, subset, kind_set, booleans, sequences, power, functions, records, product, cup, cap, minus, filtered, opened, tried, no_exprs, more_exprs, no_fields, more_fields, no_arms, other, more_arms, no_updates, more_updates}

-- no two of these names are the same
abbrev pub are_distinct : List (List ℕ) → Bool
are_distinct [] = true
are_distinct (x ∷ xs) = not (list_any (bytes_eq x) xs) && are_distinct xs

abbrev pub field_names : Fields → List (List ℕ)
field_names no_fields = []
field_names (more_fields name e fs) = name ∷ field_names fs

-- the body of a tuple pattern, or a set whose elements are checked against one: it adds nothing to a path
abbrev pub is_of_pattern : Expr → Bool
is_of_pattern (opened p os e) = true
is_of_pattern (tried p k e) = true
is_of_pattern e = false

abbrev mutual
  pub is_well_formed : Expr → Bool
  is_well_formed (constant p o) = true
  is_well_formed (bound p o) = true
  is_well_formed (now p o) = true
  is_well_formed (next p o) = true
  is_well_formed (unary p o a) = is_well_formed a
  is_well_formed (binary p o a b) = is_well_formed a && is_well_formed b
  is_well_formed (equal p a b) = is_well_formed a && is_well_formed b
  is_well_formed (sub_seq p a b c) = is_well_formed a && (is_well_formed b && is_well_formed c)
  is_well_formed (enumerated p es) = are_well_formed es
  is_well_formed (tuple p es) = are_well_formed es
  is_well_formed (record_of p fs) = are_distinct (field_names fs) && fields_well_formed fs
  is_well_formed (conjunction p es) = are_well_formed es
  is_well_formed (disjunction p es) = are_well_formed es
  is_well_formed (implies p a b) = is_well_formed a && is_well_formed b
  is_well_formed (conditional p a b c) = is_well_formed a && (is_well_formed b && is_well_formed c)
  is_well_formed (cases p arms) = arms_well_formed arms
  is_well_formed (assert p a b) = is_well_formed a && is_well_formed b
  is_well_formed (for_all p a b) = is_well_formed a && is_well_formed b
  is_well_formed (for_some p a b) = is_well_formed a && is_well_formed b
  is_well_formed (choose p a b) = is_well_formed a && is_well_formed b
  is_well_formed (image p es a) = are_well_formed es && is_well_formed a
  is_well_formed (function p es a) = are_well_formed es && is_well_formed a
  is_well_formed (except p a us) = is_well_formed a && updates_well_formed us
  is_well_formed (member p a b) = is_well_formed a && is_well_formed b
  is_well_formed (not_member p a b) = is_well_formed a && is_well_formed b
  is_well_formed (subset p a b) = is_well_formed a && is_well_formed b
  is_well_formed (kind_set p o) = true
  is_well_formed (booleans p) = true
  is_well_formed (sequences p a) = is_well_formed a
  is_well_formed (power p a) = is_well_formed a
  is_well_formed (functions p a b) = is_well_formed a && is_well_formed b
  is_well_formed (records p fs) = are_distinct (field_names fs) && fields_well_formed fs
  is_well_formed (product p es) = are_well_formed es
  is_well_formed (cup p a b) = is_well_formed a && is_well_formed b
  is_well_formed (cap p a b) = is_well_formed a && is_well_formed b
  is_well_formed (minus p a b) = is_well_formed a && is_well_formed b
  is_well_formed (filtered p a b) = is_well_formed a && is_well_formed b
  is_well_formed (opened p o a) = not (is_of_pattern a) && is_well_formed a
  is_well_formed (tried p o a) = not (is_of_pattern a) && is_well_formed a

  pub are_well_formed : Exprs → Bool
  are_well_formed no_exprs = true
  are_well_formed (more_exprs e es) = is_well_formed e && are_well_formed es

  pub fields_well_formed : Fields → Bool
  fields_well_formed no_fields = true
  fields_well_formed (more_fields name e fs) = is_well_formed e && fields_well_formed fs

  pub arms_well_formed : Arms → Bool
  arms_well_formed no_arms = true
  arms_well_formed (other e) = is_well_formed e
  arms_well_formed (more_arms c e arms) = is_well_formed c && (is_well_formed e && arms_well_formed arms)

  pub updates_well_formed : Updates → Bool
  updates_well_formed no_updates = true
  updates_well_formed (more_updates keys e us) = are_well_formed keys && (is_well_formed e && updates_well_formed us)
