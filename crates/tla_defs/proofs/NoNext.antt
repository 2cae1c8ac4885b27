-- What can be primed mentions no next value.
use Rattle.std.proofs.Common.{◌≡◌, false, refl, Some}
use Rattle.tla_core.specs.Expr.{Expr, Exprs, Fields, Arms, Updates, constant, bound, now, next, unary, binary, equal, sub_seq, enumerated, tuple, record_of, conjunction, disjunction, implies, conditional, cases, assert, for_all, for_some, choose, image, function, except, member, not_member, subset, kind_set, booleans, sequences, power, functions, records, product, cup, cap, minus, filtered, opened, tried, no_exprs, more_exprs, no_fields, more_fields, no_arms, other, more_arms, no_updates, more_updates}
use Rattle.tla_core.specs.Next.{has_next, some_next, field_next, arm_next, update_next}
use Rattle.tla_scopes.specs.declared.primes.Primes.TheVariants.{Once}
use Rattle.tla_scopes.specs.Maybe.{◌>>=◌}
use Rattle.tla_scopes.specs.Primes.{primes, primes_each, primes_fields, primes_arms, primes_updates}
use Rattle.tla_expand.proofs.PrimesFit.{inv}

mutual
  pub no_next : (t e : Expr) → primes Once t ≡ Some e → has_next t ≡ false
  no_next (constant p o) e q = refl
  no_next (bound p o) e q = refl
  no_next (now p o) e q = refl
  no_next (next p o) e q = cc
  no_next (kind_set p o) e q = refl
  no_next (booleans p) e q = refl
  no_next (unary p o a) e q =
      let i = inv (primes Once a) (λ x. Some (unary p o x)) e q in
      no_next a i.0 i.1
  no_next (binary p o a b) e q =
      let i = inv (primes Once a) (λ x. primes Once b >>= λ y. Some (binary p o x y)) e q in
      let j = inv (primes Once b) (λ y. Some (binary p o i.0 y)) e i.2 in
      rw (no_next a i.0 i.1, no_next b j.0 j.1) refl
  no_next (equal p a b) e q =
      let i = inv (primes Once a) (λ x. primes Once b >>= λ y. Some (equal p x y)) e q in
      let j = inv (primes Once b) (λ y. Some (equal p i.0 y)) e i.2 in
      rw (no_next a i.0 i.1, no_next b j.0 j.1) refl
  no_next (sub_seq p a b c) e q =
      let i = inv (primes Once a) (λ x. primes Once b >>= λ y. primes Once c >>= λ z. Some (sub_seq p x y z)) e q in
      let j = inv (primes Once b) (λ y. primes Once c >>= λ z. Some (sub_seq p i.0 y z)) e i.2 in
      let l = inv (primes Once c) (λ z. Some (sub_seq p i.0 j.0 z)) e j.2 in
      rw (no_next a i.0 i.1, no_next b j.0 j.1, no_next c l.0 l.1) refl
  no_next (enumerated p es) e q =
      let i = inv (primes_each Once es) (λ x. Some (enumerated p x)) e q in
      each_no_next es i.0 i.1
  no_next (tuple p es) e q =
      let i = inv (primes_each Once es) (λ x. Some (tuple p x)) e q in
      each_no_next es i.0 i.1
  no_next (record_of p fs) e q =
      let i = inv (primes_fields Once fs) (λ x. Some (record_of p x)) e q in
      fields_no_next fs i.0 i.1
  no_next (conjunction p es) e q =
      let i = inv (primes_each Once es) (λ x. Some (conjunction p x)) e q in
      each_no_next es i.0 i.1
  no_next (disjunction p es) e q =
      let i = inv (primes_each Once es) (λ x. Some (disjunction p x)) e q in
      each_no_next es i.0 i.1
  no_next (implies p a b) e q =
      let i = inv (primes Once a) (λ x. primes Once b >>= λ y. Some (implies p x y)) e q in
      let j = inv (primes Once b) (λ y. Some (implies p i.0 y)) e i.2 in
      rw (no_next a i.0 i.1, no_next b j.0 j.1) refl
  no_next (conditional p a b c) e q =
      let i = inv (primes Once a) (λ x. primes Once b >>= λ y. primes Once c >>= λ z. Some (conditional p x y z)) e q in
      let j = inv (primes Once b) (λ y. primes Once c >>= λ z. Some (conditional p i.0 y z)) e i.2 in
      let l = inv (primes Once c) (λ z. Some (conditional p i.0 j.0 z)) e j.2 in
      rw (no_next a i.0 i.1, no_next b j.0 j.1, no_next c l.0 l.1) refl
  no_next (cases p arms) e q =
      let i = inv (primes_arms Once arms) (λ x. Some (cases p x)) e q in
      arms_no_next arms i.0 i.1
  no_next (assert p a b) e q =
      let i = inv (primes Once a) (λ x. primes Once b >>= λ y. Some (assert p x y)) e q in
      let j = inv (primes Once b) (λ y. Some (assert p i.0 y)) e i.2 in
      rw (no_next a i.0 i.1, no_next b j.0 j.1) refl
  no_next (for_all p a b) e q =
      let i = inv (primes Once a) (λ x. primes Once b >>= λ y. Some (for_all p x y)) e q in
      let j = inv (primes Once b) (λ y. Some (for_all p i.0 y)) e i.2 in
      rw (no_next a i.0 i.1, no_next b j.0 j.1) refl
  no_next (for_some p a b) e q =
      let i = inv (primes Once a) (λ x. primes Once b >>= λ y. Some (for_some p x y)) e q in
      let j = inv (primes Once b) (λ y. Some (for_some p i.0 y)) e i.2 in
      rw (no_next a i.0 i.1, no_next b j.0 j.1) refl
  no_next (choose p a b) e q =
      let i = inv (primes Once a) (λ x. primes Once b >>= λ y. Some (choose p x y)) e q in
      let j = inv (primes Once b) (λ y. Some (choose p i.0 y)) e i.2 in
      rw (no_next a i.0 i.1, no_next b j.0 j.1) refl
  no_next (image p es a) e q =
      let i = inv (primes_each Once es) (λ x. primes Once a >>= λ y. Some (image p x y)) e q in
      let j = inv (primes Once a) (λ y. Some (image p i.0 y)) e i.2 in
      rw (each_no_next es i.0 i.1, no_next a j.0 j.1) refl
  no_next (function p es a) e q =
      let i = inv (primes_each Once es) (λ x. primes Once a >>= λ y. Some (function p x y)) e q in
      let j = inv (primes Once a) (λ y. Some (function p i.0 y)) e i.2 in
      rw (each_no_next es i.0 i.1, no_next a j.0 j.1) refl
  no_next (except p a us) e q =
      let i = inv (primes Once a) (λ x. primes_updates Once us >>= λ y. Some (except p x y)) e q in
      let j = inv (primes_updates Once us) (λ y. Some (except p i.0 y)) e i.2 in
      rw (no_next a i.0 i.1, updates_no_next us j.0 j.1) refl
  no_next (member p a b) e q =
      let i = inv (primes Once a) (λ x. primes Once b >>= λ y. Some (member p x y)) e q in
      let j = inv (primes Once b) (λ y. Some (member p i.0 y)) e i.2 in
      rw (no_next a i.0 i.1, no_next b j.0 j.1) refl
  no_next (not_member p a b) e q =
      let i = inv (primes Once a) (λ x. primes Once b >>= λ y. Some (not_member p x y)) e q in
      let j = inv (primes Once b) (λ y. Some (not_member p i.0 y)) e i.2 in
      rw (no_next a i.0 i.1, no_next b j.0 j.1) refl
  no_next (subset p a b) e q =
      let i = inv (primes Once a) (λ x. primes Once b >>= λ y. Some (subset p x y)) e q in
      let j = inv (primes Once b) (λ y. Some (subset p i.0 y)) e i.2 in
      rw (no_next a i.0 i.1, no_next b j.0 j.1) refl
  no_next (sequences p a) e q =
      let i = inv (primes Once a) (λ x. Some (sequences p x)) e q in
      no_next a i.0 i.1
  no_next (power p a) e q =
      let i = inv (primes Once a) (λ x. Some (power p x)) e q in
      no_next a i.0 i.1
  no_next (functions p a b) e q =
      let i = inv (primes Once a) (λ x. primes Once b >>= λ y. Some (functions p x y)) e q in
      let j = inv (primes Once b) (λ y. Some (functions p i.0 y)) e i.2 in
      rw (no_next a i.0 i.1, no_next b j.0 j.1) refl
  no_next (records p fs) e q =
      let i = inv (primes_fields Once fs) (λ x. Some (records p x)) e q in
      fields_no_next fs i.0 i.1
  no_next (product p es) e q =
      let i = inv (primes_each Once es) (λ x. Some (product p x)) e q in
      each_no_next es i.0 i.1
  no_next (cup p a b) e q =
      let i = inv (primes Once a) (λ x. primes Once b >>= λ y. Some (cup p x y)) e q in
      let j = inv (primes Once b) (λ y. Some (cup p i.0 y)) e i.2 in
      rw (no_next a i.0 i.1, no_next b j.0 j.1) refl
  no_next (cap p a b) e q =
      let i = inv (primes Once a) (λ x. primes Once b >>= λ y. Some (cap p x y)) e q in
      let j = inv (primes Once b) (λ y. Some (cap p i.0 y)) e i.2 in
      rw (no_next a i.0 i.1, no_next b j.0 j.1) refl
  no_next (minus p a b) e q =
      let i = inv (primes Once a) (λ x. primes Once b >>= λ y. Some (minus p x y)) e q in
      let j = inv (primes Once b) (λ y. Some (minus p i.0 y)) e i.2 in
      rw (no_next a i.0 i.1, no_next b j.0 j.1) refl
  no_next (filtered p a b) e q =
      let i = inv (primes Once a) (λ x. primes Once b >>= λ y. Some (filtered p x y)) e q in
      let j = inv (primes Once b) (λ y. Some (filtered p i.0 y)) e i.2 in
      rw (no_next a i.0 i.1, no_next b j.0 j.1) refl
  no_next (opened p o a) e q =
      let i = inv (primes Once a) (λ x. Some (opened p o x)) e q in
      no_next a i.0 i.1
  no_next (tried p o a) e q =
      let i = inv (primes Once a) (λ x. Some (tried p o x)) e q in
      no_next a i.0 i.1

  each_no_next : (t e : Exprs) → primes_each Once t ≡ Some e → some_next t ≡ false
  each_no_next no_exprs e q = refl
  each_no_next (more_exprs a es) e q =
      let i = inv (primes Once a) (λ x. primes_each Once es >>= λ y. Some (more_exprs x y)) e q in
      let j = inv (primes_each Once es) (λ y. Some (more_exprs i.0 y)) e i.2 in
      rw (no_next a i.0 i.1, each_no_next es j.0 j.1) refl

  fields_no_next : (t e : Fields) → primes_fields Once t ≡ Some e → field_next t ≡ false
  fields_no_next no_fields e q = refl
  fields_no_next (more_fields o a fs) e q =
      let i = inv (primes Once a) (λ x. primes_fields Once fs >>= λ y. Some (more_fields o x y)) e q in
      let j = inv (primes_fields Once fs) (λ y. Some (more_fields o i.0 y)) e i.2 in
      rw (no_next a i.0 i.1, fields_no_next fs j.0 j.1) refl

  arms_no_next : (t e : Arms) → primes_arms Once t ≡ Some e → arm_next t ≡ false
  arms_no_next no_arms e q = refl
  arms_no_next (other a) e q =
      let i = inv (primes Once a) (λ x. Some (other x)) e q in
      no_next a i.0 i.1
  arms_no_next (more_arms a b arms) e q =
      let i = inv (primes Once a) (λ x. primes Once b >>= λ y. primes_arms Once arms >>= λ z. Some (more_arms x y z)) e q in
      let j = inv (primes Once b) (λ y. primes_arms Once arms >>= λ z. Some (more_arms i.0 y z)) e i.2 in
      let l = inv (primes_arms Once arms) (λ z. Some (more_arms i.0 j.0 z)) e j.2 in
      rw (no_next a i.0 i.1, no_next b j.0 j.1, arms_no_next arms l.0 l.1) refl

  updates_no_next : (t e : Updates) → primes_updates Once t ≡ Some e → update_next t ≡ false
  updates_no_next no_updates e q = refl
  updates_no_next (more_updates es a us) e q =
      let i = inv (primes_each Once es) (λ x. primes Once a >>= λ y. primes_updates Once us >>= λ z. Some (more_updates x y z)) e q in
      let j = inv (primes Once a) (λ y. primes_updates Once us >>= λ z. Some (more_updates i.0 y z)) e i.2 in
      let l = inv (primes_updates Once us) (λ z. Some (more_updates i.0 j.0 z)) e j.2 in
      rw (each_no_next es i.0 i.1, no_next a j.0 j.1, updates_no_next us l.0 l.1) refl
