-- A copy of an expression under more bound names. A bound name is the number of its binder, counted from the outermost
-- one. So the copy differs only in the numbers of the names that the expression binds itself: they come after the new
-- names. (Book, chapter 16: a bound name may be renamed.)
use Rattle.std.specs.Prelude.{ℕ, ◌+◌, nat_lt, if◌then◌else◌, List, map}
use Rattle.tla_core.specs.declared.expression.Opening.{Opening}
use Rattle.tla_core.specs.Expr.{Expr, Exprs, Fields, Arms, Updates, constant, bound, now, next, unary, binary, equal, sub_seq, enumerated, tuple, record_of, conjunction, disjunction, implies, conditional, cases, assert, for_all, for_some, choose, image, function, except, member, not_member, subset, kind_set, booleans, sequences, power, functions, records, product, cup, cap, minus, filtered, opened, tried, no_exprs, more_exprs, no_fields, more_fields, no_arms, other, more_arms, no_updates, more_updates}

-- The expression is under `from` names, and its copy under `by` more, which come after these.
abbrev pub raised_name : ℕ → ℕ → ℕ → ℕ
raised_name from by i = if nat_lt i from then i else i + by

-- a pattern destructures the element of a bound name
abbrev pub raised_opening : ℕ → ℕ → Opening → Opening
raised_opening from by o = record { name = raised_name from by o.name; items = o.items }

abbrev pub raised_openings : ℕ → ℕ → List Opening → List Opening
raised_openings from by os = map (raised_opening from by) os

abbrev mutual
  pub raise : ℕ → ℕ → Expr → Expr
  raise from by (constant p v) = constant p v
  raise from by (bound p i) = bound p (raised_name from by i)
  raise from by (now p i) = now p i
  raise from by (next p i) = next p i
  raise from by (unary p op a) = unary p op (raise from by a)
  raise from by (binary p op a c) = binary p op (raise from by a) (raise from by c)
  raise from by (equal p a c) = equal p (raise from by a) (raise from by c)
  raise from by (sub_seq p a c d) = sub_seq p (raise from by a) (raise from by c) (raise from by d)
  raise from by (enumerated p es) = enumerated p (raise_all from by es)
  raise from by (tuple p es) = tuple p (raise_all from by es)
  raise from by (record_of p fs) = record_of p (raise_fields from by fs)
  raise from by (conjunction p es) = conjunction p (raise_all from by es)
  raise from by (disjunction p es) = disjunction p (raise_all from by es)
  raise from by (implies p a c) = implies p (raise from by a) (raise from by c)
  raise from by (conditional p a c d) = conditional p (raise from by a) (raise from by c) (raise from by d)
  raise from by (cases p arms) = cases p (raise_arms from by arms)
  raise from by (assert p a c) = assert p (raise from by a) (raise from by c)
  raise from by (for_all p a e) = for_all p (raise from by a) (raise from by e)
  raise from by (for_some p a e) = for_some p (raise from by a) (raise from by e)
  raise from by (choose p a e) = choose p (raise from by a) (raise from by e)
  raise from by (image p es e) = image p (raise_all from by es) (raise from by e)
  raise from by (function p es e) = function p (raise_all from by es) (raise from by e)
  raise from by (except p a us) = except p (raise from by a) (raise_updates from by us)
  raise from by (member p a c) = member p (raise from by a) (raise from by c)
  raise from by (not_member p a c) = not_member p (raise from by a) (raise from by c)
  raise from by (subset p a c) = subset p (raise from by a) (raise from by c)
  raise from by (kind_set p k) = kind_set p k
  raise from by (booleans p) = booleans p
  raise from by (sequences p a) = sequences p (raise from by a)
  raise from by (power p a) = power p (raise from by a)
  raise from by (functions p a c) = functions p (raise from by a) (raise from by c)
  raise from by (records p fs) = records p (raise_fields from by fs)
  raise from by (product p es) = product p (raise_all from by es)
  raise from by (cup p a c) = cup p (raise from by a) (raise from by c)
  raise from by (cap p a c) = cap p (raise from by a) (raise from by c)
  raise from by (minus p a c) = minus p (raise from by a) (raise from by c)
  raise from by (filtered p a e) = filtered p (raise from by a) (raise from by e)
  raise from by (opened p os e) = opened p (raised_openings from by os) (raise from by e)
  raise from by (tried p k a) = tried p k (raise from by a)

  pub raise_all : ℕ → ℕ → Exprs → Exprs
  raise_all from by no_exprs = no_exprs
  raise_all from by (more_exprs e es) = more_exprs (raise from by e) (raise_all from by es)

  pub raise_fields : ℕ → ℕ → Fields → Fields
  raise_fields from by no_fields = no_fields
  raise_fields from by (more_fields name e fs) = more_fields name (raise from by e) (raise_fields from by fs)

  pub raise_arms : ℕ → ℕ → Arms → Arms
  raise_arms from by no_arms = no_arms
  raise_arms from by (other e) = other (raise from by e)
  raise_arms from by (more_arms c e arms) = more_arms (raise from by c) (raise from by e) (raise_arms from by arms)

  pub raise_updates : ℕ → ℕ → Updates → Updates
  raise_updates from by no_updates = no_updates
  raise_updates from by (more_updates keys e us) = more_updates (raise_all from by keys) (raise from by e) (raise_updates from by us)
