-- Primes on expressions (book, chapter 16): a prime turns each variable now into the variable next.
use Rattle.std.specs.Prelude.{ℕ, Bool, true, false, Option, Some, None}
use Rattle.tla_core.specs.declared.fault.Place.{Place}
use Rattle.tla_core.specs.Expr.{Expr, Exprs, Fields, Arms, Updates, constant, bound, now, next, unary, binary, equal, sub_seq, enumerated, tuple, record_of, conjunction, disjunction, implies, conditional, cases, assert, for_all, for_some, choose, image, function, except, member, not_member, subset, kind_set, booleans, sequences, power, functions, records, product, cup, cap, minus, filtered, opened, tried, no_exprs, more_exprs, no_fields, more_fields, no_arms, other, more_arms, no_updates, more_updates}
use Rattle.tla_scopes.specs.declared.primes.Primes.{Primes}
use Rattle.tla_scopes.specs.declared.primes.Primes.TheVariants.{Never, Once, Twice}
use Rattle.tla_scopes.specs.Maybe.{◌>>=◌}

abbrev pub one_more : Primes → Primes
one_more Never = Once
one_more Once = Twice
one_more Twice = Twice

-- fewer primes than others
abbrev pub are_fewer : Primes → Primes → Bool
are_fewer Never Never = false
are_fewer Never Once = true
are_fewer Never Twice = true
are_fewer Once Never = false
are_fewer Once Once = false
are_fewer Once Twice = true
are_fewer Twice k = false

-- With which primes e is read in UNCHANGED e under these primes: under one, with two, for which only an e without
-- variables has an expansion.
abbrev pub settled_primes : Primes → Primes
settled_primes Never = Never
settled_primes Once = Twice
settled_primes Twice = Twice

-- a variable's present value, and its next one, with these primes
abbrev pub primed_now : Primes → Place → ℕ → Option Expr
primed_now Never p i = Some (now p i)
primed_now Once p i = Some (next p i)
primed_now Twice p i = None

abbrev pub primed_next : Primes → Place → ℕ → Option Expr
primed_next Never p i = Some (next p i)
primed_next Once p i = None
primed_next Twice p i = None

-- An expression with these primes. The next value of a variable can't have a prime.
abbrev mutual
  pub primes : Primes → Expr → Option Expr
  primes k (constant p v) = Some (constant p v)
  primes k (bound p i) = Some (bound p i)
  primes k (now p i) = primed_now k p i
  primes k (next p i) = primed_next k p i
  primes k (unary p o a) = primes k a >>= λ x. Some (unary p o x)
  primes k (binary p o a b) = primes k a >>= λ x. primes k b >>= λ y. Some (binary p o x y)
  primes k (equal p a b) = primes k a >>= λ x. primes k b >>= λ y. Some (equal p x y)
  primes k (sub_seq p a b c) = primes k a >>= λ x. primes k b >>= λ y. primes k c >>= λ z. Some (sub_seq p x y z)
  primes k (enumerated p es) = primes_each k es >>= λ x. Some (enumerated p x)
  primes k (tuple p es) = primes_each k es >>= λ x. Some (tuple p x)
  primes k (record_of p fs) = primes_fields k fs >>= λ x. Some (record_of p x)
  primes k (conjunction p es) = primes_each k es >>= λ x. Some (conjunction p x)
  primes k (disjunction p es) = primes_each k es >>= λ x. Some (disjunction p x)
  primes k (implies p a b) = primes k a >>= λ x. primes k b >>= λ y. Some (implies p x y)
  primes k (conditional p a b c) = primes k a >>= λ x. primes k b >>= λ y. primes k c >>= λ z. Some (conditional p x y z)
  primes k (cases p arms) = primes_arms k arms >>= λ x. Some (cases p x)
  primes k (assert p a b) = primes k a >>= λ x. primes k b >>= λ y. Some (assert p x y)
  primes k (for_all p a b) = primes k a >>= λ x. primes k b >>= λ y. Some (for_all p x y)
  primes k (for_some p a b) = primes k a >>= λ x. primes k b >>= λ y. Some (for_some p x y)
  primes k (choose p a b) = primes k a >>= λ x. primes k b >>= λ y. Some (choose p x y)
  primes k (image p es a) = primes_each k es >>= λ x. primes k a >>= λ y. Some (image p x y)
  primes k (function p es a) = primes_each k es >>= λ x. primes k a >>= λ y. Some (function p x y)
  primes k (except p a us) = primes k a >>= λ x. primes_updates k us >>= λ y. Some (except p x y)
  primes k (member p a b) = primes k a >>= λ x. primes k b >>= λ y. Some (member p x y)
  primes k (not_member p a b) = primes k a >>= λ x. primes k b >>= λ y. Some (not_member p x y)
  primes k (subset p a b) = primes k a >>= λ x. primes k b >>= λ y. Some (subset p x y)
  primes k (kind_set p o) = Some (kind_set p o)
  primes k (booleans p) = Some (booleans p)
  primes k (sequences p a) = primes k a >>= λ x. Some (sequences p x)
  primes k (power p a) = primes k a >>= λ x. Some (power p x)
  primes k (functions p a b) = primes k a >>= λ x. primes k b >>= λ y. Some (functions p x y)
  primes k (records p fs) = primes_fields k fs >>= λ x. Some (records p x)
  primes k (product p es) = primes_each k es >>= λ x. Some (product p x)
  primes k (cup p a b) = primes k a >>= λ x. primes k b >>= λ y. Some (cup p x y)
  primes k (cap p a b) = primes k a >>= λ x. primes k b >>= λ y. Some (cap p x y)
  primes k (minus p a b) = primes k a >>= λ x. primes k b >>= λ y. Some (minus p x y)
  primes k (filtered p a b) = primes k a >>= λ x. primes k b >>= λ y. Some (filtered p x y)
  primes k (opened p os a) = primes k a >>= λ x. Some (opened p os x)
  primes k (tried p n a) = primes k a >>= λ x. Some (tried p n x)

  pub primes_each : Primes → Exprs → Option Exprs
  primes_each k no_exprs = Some no_exprs
  primes_each k (more_exprs e es) = primes k e >>= λ x. primes_each k es >>= λ xs. Some (more_exprs x xs)

  pub primes_fields : Primes → Fields → Option Fields
  primes_fields k no_fields = Some no_fields
  primes_fields k (more_fields n e fs) = primes k e >>= λ x. primes_fields k fs >>= λ xs. Some (more_fields n x xs)

  pub primes_arms : Primes → Arms → Option Arms
  primes_arms k no_arms = Some no_arms
  primes_arms k (other e) = primes k e >>= λ x. Some (other x)
  primes_arms k (more_arms a b arms) = primes k a >>= λ x. primes k b >>= λ y. primes_arms k arms >>= λ xs. Some (more_arms x y xs)

  pub primes_updates : Primes → Updates → Option Updates
  primes_updates k no_updates = Some no_updates
  primes_updates k (more_updates path e us) = primes_each k path >>= λ x. primes k e >>= λ y. primes_updates k us >>= λ xs. Some (more_updates x y xs)

-- an expansion with these primes
abbrev pub with_primes : Primes → Option Expr → Option Expr
with_primes k o = o >>= primes k
