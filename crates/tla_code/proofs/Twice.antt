-- A copy of a copy is one copy, if the second's new names are among the first's, or right before or after them.
use Rattle.std.proofs.Common.{◌≡◌, ℕ, ◌+◌, ◌≤◌, List, [], ◌∷◌, refl, arith}
use Rattle.tla_core.specs.declared.expression.Opening.{Opening}
use Rattle.tla_core.specs.Expr.{Expr, Exprs, Fields, Arms, Updates, constant, bound, now, next, unary, binary, equal, sub_seq, enumerated, tuple, record_of, conjunction, disjunction, implies, conditional, cases, assert, for_all, for_some, choose, image, function, except, member, not_member, subset, kind_set, booleans, sequences, power, functions, records, product, cup, cap, minus, filtered, opened, tried, no_exprs, more_exprs, no_fields, more_fields, no_arms, other, more_arms, no_updates, more_updates}
use Rattle.tla_code.specs.Raise.{raise, raise_all, raise_fields, raise_arms, raise_updates, raised_name, raised_openings}

name-twice : (from by f more i : ℕ) → from ≤ f → f ≤ from + by → raised_name from (by + more) i ≡ raised_name f more (raised_name from by i)
name-twice from by f more i h k = grind (arith, h, k)

openings-twice : (from by f more : ℕ) → from ≤ f → f ≤ from + by → (os : List Opening) → raised_openings from (by + more) os ≡ raised_openings f more (raised_openings from by os)
openings-twice from by f more h k [] = refl
openings-twice from by f more h k (o ∷ os) = λ i. record { name = name-twice from by f more o.name h k i; items = o.items } ∷ openings-twice from by f more h k os i

module _ (from by f more : ℕ) (h : from ≤ f) (k : f ≤ from + by) where
  mutual
    pub raise-twice : (e : Expr) → raise from (by + more) e ≡ raise f more (raise from by e)
    raise-twice (constant p v) = refl
    raise-twice (bound p i) = λ j. bound p (name-twice from by f more i h k j)
    raise-twice (now p i) = refl
    raise-twice (next p i) = refl
    raise-twice (unary p op a) = λ i. unary p op (raise-twice a i)
    raise-twice (binary p op a c) = λ i. binary p op (raise-twice a i) (raise-twice c i)
    raise-twice (equal p a c) = λ i. equal p (raise-twice a i) (raise-twice c i)
    raise-twice (sub_seq p a c d) = λ i. sub_seq p (raise-twice a i) (raise-twice c i) (raise-twice d i)
    raise-twice (enumerated p es) = λ i. enumerated p (all-twice es i)
    raise-twice (tuple p es) = λ i. tuple p (all-twice es i)
    raise-twice (record_of p fs) = λ i. record_of p (fields-twice fs i)
    raise-twice (conjunction p es) = λ i. conjunction p (all-twice es i)
    raise-twice (disjunction p es) = λ i. disjunction p (all-twice es i)
    raise-twice (implies p a c) = λ i. implies p (raise-twice a i) (raise-twice c i)
    raise-twice (conditional p a c d) = λ i. conditional p (raise-twice a i) (raise-twice c i) (raise-twice d i)
    raise-twice (cases p arms) = λ i. cases p (arms-twice arms i)
    raise-twice (assert p a c) = λ i. assert p (raise-twice a i) (raise-twice c i)
    raise-twice (for_all p a e) = λ i. for_all p (raise-twice a i) (raise-twice e i)
    raise-twice (for_some p a e) = λ i. for_some p (raise-twice a i) (raise-twice e i)
    raise-twice (choose p a e) = λ i. choose p (raise-twice a i) (raise-twice e i)
    raise-twice (image p es e) = λ i. image p (all-twice es i) (raise-twice e i)
    raise-twice (function p es e) = λ i. function p (all-twice es i) (raise-twice e i)
    raise-twice (except p a us) = λ i. except p (raise-twice a i) (updates-twice us i)
    raise-twice (member p a c) = λ i. member p (raise-twice a i) (raise-twice c i)
    raise-twice (not_member p a c) = λ i. not_member p (raise-twice a i) (raise-twice c i)
    raise-twice (subset p a c) = λ i. subset p (raise-twice a i) (raise-twice c i)
    raise-twice (kind_set p o) = refl
    raise-twice (booleans p) = refl
    raise-twice (sequences p a) = λ i. sequences p (raise-twice a i)
    raise-twice (power p a) = λ i. power p (raise-twice a i)
    raise-twice (functions p a c) = λ i. functions p (raise-twice a i) (raise-twice c i)
    raise-twice (records p fs) = λ i. records p (fields-twice fs i)
    raise-twice (product p es) = λ i. product p (all-twice es i)
    raise-twice (cup p a c) = λ i. cup p (raise-twice a i) (raise-twice c i)
    raise-twice (cap p a c) = λ i. cap p (raise-twice a i) (raise-twice c i)
    raise-twice (minus p a c) = λ i. minus p (raise-twice a i) (raise-twice c i)
    raise-twice (filtered p a e) = λ i. filtered p (raise-twice a i) (raise-twice e i)
    raise-twice (opened p os e) = λ i. opened p (openings-twice from by f more h k os i) (raise-twice e i)
    raise-twice (tried p n a) = λ i. tried p n (raise-twice a i)

    all-twice : (es : Exprs) → raise_all from (by + more) es ≡ raise_all f more (raise_all from by es)
    all-twice no_exprs = refl
    all-twice (more_exprs e es) = λ i. more_exprs (raise-twice e i) (all-twice es i)

    fields-twice : (fs : Fields) → raise_fields from (by + more) fs ≡ raise_fields f more (raise_fields from by fs)
    fields-twice no_fields = refl
    fields-twice (more_fields name e fs) = λ i. more_fields name (raise-twice e i) (fields-twice fs i)

    arms-twice : (arms : Arms) → raise_arms from (by + more) arms ≡ raise_arms f more (raise_arms from by arms)
    arms-twice no_arms = refl
    arms-twice (other e) = λ i. other (raise-twice e i)
    arms-twice (more_arms c e arms) = λ i. more_arms (raise-twice c i) (raise-twice e i) (arms-twice arms i)

    updates-twice : (us : Updates) → raise_updates from (by + more) us ≡ raise_updates f more (raise_updates from by us)
    updates-twice no_updates = refl
    updates-twice (more_updates keys e us) = λ i. more_updates (all-twice keys i) (raise-twice e i) (updates-twice us i)
