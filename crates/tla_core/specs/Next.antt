-- Whether the next value of a variable occurs in an expression.
use Rattle.std.specs.Prelude.{Bool, true, false, ◌||◌}
use Rattle.tla_core.specs.Expr.{Expr, Exprs, Fields, Arms, Updates, constant, bound, now, next, unary, binary, equal, sub_seq, enumerated, tuple, record_of, conjunction, disjunction, implies, conditional, cases, assert, for_all, for_some, choose, image, function, except, member, not_member, subset, kind_set, booleans, sequences, power, functions, records, product, cup, cap, minus, filtered, opened, tried, no_exprs, more_exprs, no_fields, more_fields, no_arms, other, more_arms, no_updates, more_updates}

abbrev mutual
  pub has_next : Expr → Bool
  has_next (constant p v) = false
  has_next (bound p i) = false
  has_next (now p i) = false
  has_next (next p i) = true
  has_next (unary p op a) = has_next a
  has_next (binary p op a c) = has_next a || has_next c
  has_next (equal p a c) = has_next a || has_next c
  has_next (sub_seq p a c d) = has_next a || (has_next c || has_next d)
  has_next (enumerated p es) = some_next es
  has_next (tuple p es) = some_next es
  has_next (record_of p fs) = field_next fs
  has_next (conjunction p es) = some_next es
  has_next (disjunction p es) = some_next es
  has_next (implies p a c) = has_next a || has_next c
  has_next (conditional p a c d) = has_next a || (has_next c || has_next d)
  has_next (cases p arms) = arm_next arms
  has_next (assert p a c) = has_next a || has_next c
  has_next (for_all p a e) = has_next a || has_next e
  has_next (for_some p a e) = has_next a || has_next e
  has_next (choose p a e) = has_next a || has_next e
  has_next (image p es e) = some_next es || has_next e
  has_next (function p es e) = some_next es || has_next e
  has_next (except p a us) = has_next a || update_next us
  has_next (member p a c) = has_next a || has_next c
  has_next (not_member p a c) = has_next a || has_next c
  has_next (subset p a c) = has_next a || has_next c
  has_next (kind_set p k) = false
  has_next (booleans p) = false
  has_next (sequences p a) = has_next a
  has_next (power p a) = has_next a
  has_next (functions p a c) = has_next a || has_next c
  has_next (records p fs) = field_next fs
  has_next (product p es) = some_next es
  has_next (cup p a c) = has_next a || has_next c
  has_next (cap p a c) = has_next a || has_next c
  has_next (minus p a c) = has_next a || has_next c
  has_next (filtered p a e) = has_next a || has_next e
  has_next (opened p os e) = has_next e
  has_next (tried p k a) = has_next a

  pub some_next : Exprs → Bool
  some_next no_exprs = false
  some_next (more_exprs e es) = has_next e || some_next es

  pub field_next : Fields → Bool
  field_next no_fields = false
  field_next (more_fields name e fs) = has_next e || field_next fs

  pub arm_next : Arms → Bool
  arm_next no_arms = false
  arm_next (other e) = has_next e
  arm_next (more_arms c e arms) = has_next c || (has_next e || arm_next arms)

  pub update_next : Updates → Bool
  update_next no_updates = false
  update_next (more_updates keys e us) = some_next keys || (has_next e || update_next us)
