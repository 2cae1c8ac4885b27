-- An expression with primes is of the form of the expression.
use Rattle.std.proofs.Common.{◌≡◌, ℕ, refl, sym, Some}
use Rattle.tla_core.specs.declared.fault.Place.{Place}
use Rattle.tla_core.specs.Expr.{Expr, Exprs, Fields, Arms, Updates, constant, bound, now, next, unary, binary, equal, sub_seq, enumerated, tuple, record_of, conjunction, disjunction, implies, conditional, cases, assert, for_all, for_some, choose, image, function, except, member, not_member, subset, kind_set, booleans, sequences, power, functions, records, product, cup, cap, minus, filtered, opened, tried, no_exprs, more_exprs, no_fields, more_fields, no_arms, other, more_arms, no_updates, more_updates}
use Rattle.tla_model.specs.WellFormed.{field_names, is_of_pattern, is_well_formed, are_well_formed, fields_well_formed, arms_well_formed, updates_well_formed}
use Rattle.tla_scopes.specs.declared.primes.Primes.{Primes}
use Rattle.tla_scopes.specs.declared.primes.Primes.TheVariants.{Never, Once, Twice}
use Rattle.tla_scopes.specs.Maybe.{◌>>=◌}
use Rattle.tla_scopes.specs.Primes.{primes, primes_each, primes_fields, primes_arms, primes_updates, primed_now, primed_next}
use Rattle.tla_expand.proofs.PrimesFit.{inv}

abbrev AreAlike : Expr → Expr → Type 0
AreAlike e t = (is_of_pattern e ≡ is_of_pattern t) × (is_well_formed e ≡ is_well_formed t)

same_form : (t e : Expr) → Some t ≡ Some e → AreAlike e t
same_form t e q = let same : t ≡ e = cc in rw (sym same) (refl, refl)

now_form : (k : Primes) (p : Place) (i : ℕ) (e : Expr) → primed_now k p i ≡ Some e → AreAlike e (now p i)
now_form Never p i e q = same_form (now p i) e q
now_form Once p i e q = let same : next p i ≡ e = cc in rw (sym same) (refl, refl)
now_form Twice p i e q = cc

next_form : (k : Primes) (p : Place) (i : ℕ) (e : Expr) → primed_next k p i ≡ Some e → AreAlike e (next p i)
next_form Never p i e q = same_form (next p i) e q
next_form Once p i e q = cc
next_form Twice p i e q = cc

mutual
  pub primes_form : (k : Primes) (t e : Expr) → primes k t ≡ Some e → AreAlike e t
  primes_form k (now p i) e q = now_form k p i e q
  primes_form k (next p i) e q = next_form k p i e q
  primes_form k (constant p o) e q = same_form (constant p o) e q
  primes_form k (bound p o) e q = same_form (bound p o) e q
  primes_form k (unary p o a) e q =
      let i = inv (primes k a) (λ x. Some (unary p o x)) e q in
      let same : unary p o i.0 ≡ e = cc in
      let u = primes_form k a i.0 i.1 in
      rw (sym same, u.1) (refl, refl)
  primes_form k (binary p o a b) e q =
      let i = inv (primes k a) (λ x. primes k b >>= λ y. Some (binary p o x y)) e q in
      let j = inv (primes k b) (λ y. Some (binary p o i.0 y)) e i.2 in
      let same : binary p o i.0 j.0 ≡ e = cc in
      let u = primes_form k a i.0 i.1 in
      let v = primes_form k b j.0 j.1 in
      rw (sym same, u.1, v.1) (refl, refl)
  primes_form k (equal p a b) e q =
      let i = inv (primes k a) (λ x. primes k b >>= λ y. Some (equal p x y)) e q in
      let j = inv (primes k b) (λ y. Some (equal p i.0 y)) e i.2 in
      let same : equal p i.0 j.0 ≡ e = cc in
      let u = primes_form k a i.0 i.1 in
      let v = primes_form k b j.0 j.1 in
      rw (sym same, u.1, v.1) (refl, refl)
  primes_form k (sub_seq p a b c) e q =
      let i = inv (primes k a) (λ x. primes k b >>= λ y. primes k c >>= λ z. Some (sub_seq p x y z)) e q in
      let j = inv (primes k b) (λ y. primes k c >>= λ z. Some (sub_seq p i.0 y z)) e i.2 in
      let l = inv (primes k c) (λ z. Some (sub_seq p i.0 j.0 z)) e j.2 in
      let same : sub_seq p i.0 j.0 l.0 ≡ e = cc in
      let u = primes_form k a i.0 i.1 in
      let v = primes_form k b j.0 j.1 in
      let w = primes_form k c l.0 l.1 in
      rw (sym same, u.1, v.1, w.1) (refl, refl)
  primes_form k (enumerated p es) e q =
      let i = inv (primes_each k es) (λ x. Some (enumerated p x)) e q in
      let same : enumerated p i.0 ≡ e = cc in
      let u = each_form k es i.0 i.1 in
      rw (sym same, u) (refl, refl)
  primes_form k (tuple p es) e q =
      let i = inv (primes_each k es) (λ x. Some (tuple p x)) e q in
      let same : tuple p i.0 ≡ e = cc in
      let u = each_form k es i.0 i.1 in
      rw (sym same, u) (refl, refl)
  primes_form k (record_of p fs) e q =
      let i = inv (primes_fields k fs) (λ x. Some (record_of p x)) e q in
      let same : record_of p i.0 ≡ e = cc in
      let u = fields_form k fs i.0 i.1 in
      rw (sym same, u.0, u.1) (refl, refl)
  primes_form k (conjunction p es) e q =
      let i = inv (primes_each k es) (λ x. Some (conjunction p x)) e q in
      let same : conjunction p i.0 ≡ e = cc in
      let u = each_form k es i.0 i.1 in
      rw (sym same, u) (refl, refl)
  primes_form k (disjunction p es) e q =
      let i = inv (primes_each k es) (λ x. Some (disjunction p x)) e q in
      let same : disjunction p i.0 ≡ e = cc in
      let u = each_form k es i.0 i.1 in
      rw (sym same, u) (refl, refl)
  primes_form k (implies p a b) e q =
      let i = inv (primes k a) (λ x. primes k b >>= λ y. Some (implies p x y)) e q in
      let j = inv (primes k b) (λ y. Some (implies p i.0 y)) e i.2 in
      let same : implies p i.0 j.0 ≡ e = cc in
      let u = primes_form k a i.0 i.1 in
      let v = primes_form k b j.0 j.1 in
      rw (sym same, u.1, v.1) (refl, refl)
  primes_form k (conditional p a b c) e q =
      let i = inv (primes k a) (λ x. primes k b >>= λ y. primes k c >>= λ z. Some (conditional p x y z)) e q in
      let j = inv (primes k b) (λ y. primes k c >>= λ z. Some (conditional p i.0 y z)) e i.2 in
      let l = inv (primes k c) (λ z. Some (conditional p i.0 j.0 z)) e j.2 in
      let same : conditional p i.0 j.0 l.0 ≡ e = cc in
      let u = primes_form k a i.0 i.1 in
      let v = primes_form k b j.0 j.1 in
      let w = primes_form k c l.0 l.1 in
      rw (sym same, u.1, v.1, w.1) (refl, refl)
  primes_form k (cases p arms) e q =
      let i = inv (primes_arms k arms) (λ x. Some (cases p x)) e q in
      let same : cases p i.0 ≡ e = cc in
      let u = arms_form k arms i.0 i.1 in
      rw (sym same, u) (refl, refl)
  primes_form k (assert p a b) e q =
      let i = inv (primes k a) (λ x. primes k b >>= λ y. Some (assert p x y)) e q in
      let j = inv (primes k b) (λ y. Some (assert p i.0 y)) e i.2 in
      let same : assert p i.0 j.0 ≡ e = cc in
      let u = primes_form k a i.0 i.1 in
      let v = primes_form k b j.0 j.1 in
      rw (sym same, u.1, v.1) (refl, refl)
  primes_form k (for_all p a b) e q =
      let i = inv (primes k a) (λ x. primes k b >>= λ y. Some (for_all p x y)) e q in
      let j = inv (primes k b) (λ y. Some (for_all p i.0 y)) e i.2 in
      let same : for_all p i.0 j.0 ≡ e = cc in
      let u = primes_form k a i.0 i.1 in
      let v = primes_form k b j.0 j.1 in
      rw (sym same, u.1, v.1) (refl, refl)
  primes_form k (for_some p a b) e q =
      let i = inv (primes k a) (λ x. primes k b >>= λ y. Some (for_some p x y)) e q in
      let j = inv (primes k b) (λ y. Some (for_some p i.0 y)) e i.2 in
      let same : for_some p i.0 j.0 ≡ e = cc in
      let u = primes_form k a i.0 i.1 in
      let v = primes_form k b j.0 j.1 in
      rw (sym same, u.1, v.1) (refl, refl)
  primes_form k (choose p a b) e q =
      let i = inv (primes k a) (λ x. primes k b >>= λ y. Some (choose p x y)) e q in
      let j = inv (primes k b) (λ y. Some (choose p i.0 y)) e i.2 in
      let same : choose p i.0 j.0 ≡ e = cc in
      let u = primes_form k a i.0 i.1 in
      let v = primes_form k b j.0 j.1 in
      rw (sym same, u.1, v.1) (refl, refl)
  primes_form k (image p es a) e q =
      let i = inv (primes_each k es) (λ x. primes k a >>= λ y. Some (image p x y)) e q in
      let j = inv (primes k a) (λ y. Some (image p i.0 y)) e i.2 in
      let same : image p i.0 j.0 ≡ e = cc in
      let u = each_form k es i.0 i.1 in
      let v = primes_form k a j.0 j.1 in
      rw (sym same, u, v.1) (refl, refl)
  primes_form k (function p es a) e q =
      let i = inv (primes_each k es) (λ x. primes k a >>= λ y. Some (function p x y)) e q in
      let j = inv (primes k a) (λ y. Some (function p i.0 y)) e i.2 in
      let same : function p i.0 j.0 ≡ e = cc in
      let u = each_form k es i.0 i.1 in
      let v = primes_form k a j.0 j.1 in
      rw (sym same, u, v.1) (refl, refl)
  primes_form k (except p a us) e q =
      let i = inv (primes k a) (λ x. primes_updates k us >>= λ y. Some (except p x y)) e q in
      let j = inv (primes_updates k us) (λ y. Some (except p i.0 y)) e i.2 in
      let same : except p i.0 j.0 ≡ e = cc in
      let u = primes_form k a i.0 i.1 in
      let v = updates_form k us j.0 j.1 in
      rw (sym same, u.1, v) (refl, refl)
  primes_form k (member p a b) e q =
      let i = inv (primes k a) (λ x. primes k b >>= λ y. Some (member p x y)) e q in
      let j = inv (primes k b) (λ y. Some (member p i.0 y)) e i.2 in
      let same : member p i.0 j.0 ≡ e = cc in
      let u = primes_form k a i.0 i.1 in
      let v = primes_form k b j.0 j.1 in
      rw (sym same, u.1, v.1) (refl, refl)
  primes_form k (not_member p a b) e q =
      let i = inv (primes k a) (λ x. primes k b >>= λ y. Some (not_member p x y)) e q in
      let j = inv (primes k b) (λ y. Some (not_member p i.0 y)) e i.2 in
      let same : not_member p i.0 j.0 ≡ e = cc in
      let u = primes_form k a i.0 i.1 in
      let v = primes_form k b j.0 j.1 in
      rw (sym same, u.1, v.1) (refl, refl)
  primes_form k (subset p a b) e q =
      let i = inv (primes k a) (λ x. primes k b >>= λ y. Some (subset p x y)) e q in
      let j = inv (primes k b) (λ y. Some (subset p i.0 y)) e i.2 in
      let same : subset p i.0 j.0 ≡ e = cc in
      let u = primes_form k a i.0 i.1 in
      let v = primes_form k b j.0 j.1 in
      rw (sym same, u.1, v.1) (refl, refl)
  primes_form k (kind_set p o) e q = same_form (kind_set p o) e q
  primes_form k (booleans p) e q = same_form (booleans p) e q
  primes_form k (sequences p a) e q =
      let i = inv (primes k a) (λ x. Some (sequences p x)) e q in
      let same : sequences p i.0 ≡ e = cc in
      let u = primes_form k a i.0 i.1 in
      rw (sym same, u.1) (refl, refl)
  primes_form k (power p a) e q =
      let i = inv (primes k a) (λ x. Some (power p x)) e q in
      let same : power p i.0 ≡ e = cc in
      let u = primes_form k a i.0 i.1 in
      rw (sym same, u.1) (refl, refl)
  primes_form k (functions p a b) e q =
      let i = inv (primes k a) (λ x. primes k b >>= λ y. Some (functions p x y)) e q in
      let j = inv (primes k b) (λ y. Some (functions p i.0 y)) e i.2 in
      let same : functions p i.0 j.0 ≡ e = cc in
      let u = primes_form k a i.0 i.1 in
      let v = primes_form k b j.0 j.1 in
      rw (sym same, u.1, v.1) (refl, refl)
  primes_form k (records p fs) e q =
      let i = inv (primes_fields k fs) (λ x. Some (records p x)) e q in
      let same : records p i.0 ≡ e = cc in
      let u = fields_form k fs i.0 i.1 in
      rw (sym same, u.0, u.1) (refl, refl)
  primes_form k (product p es) e q =
      let i = inv (primes_each k es) (λ x. Some (product p x)) e q in
      let same : product p i.0 ≡ e = cc in
      let u = each_form k es i.0 i.1 in
      rw (sym same, u) (refl, refl)
  primes_form k (cup p a b) e q =
      let i = inv (primes k a) (λ x. primes k b >>= λ y. Some (cup p x y)) e q in
      let j = inv (primes k b) (λ y. Some (cup p i.0 y)) e i.2 in
      let same : cup p i.0 j.0 ≡ e = cc in
      let u = primes_form k a i.0 i.1 in
      let v = primes_form k b j.0 j.1 in
      rw (sym same, u.1, v.1) (refl, refl)
  primes_form k (cap p a b) e q =
      let i = inv (primes k a) (λ x. primes k b >>= λ y. Some (cap p x y)) e q in
      let j = inv (primes k b) (λ y. Some (cap p i.0 y)) e i.2 in
      let same : cap p i.0 j.0 ≡ e = cc in
      let u = primes_form k a i.0 i.1 in
      let v = primes_form k b j.0 j.1 in
      rw (sym same, u.1, v.1) (refl, refl)
  primes_form k (minus p a b) e q =
      let i = inv (primes k a) (λ x. primes k b >>= λ y. Some (minus p x y)) e q in
      let j = inv (primes k b) (λ y. Some (minus p i.0 y)) e i.2 in
      let same : minus p i.0 j.0 ≡ e = cc in
      let u = primes_form k a i.0 i.1 in
      let v = primes_form k b j.0 j.1 in
      rw (sym same, u.1, v.1) (refl, refl)
  primes_form k (filtered p a b) e q =
      let i = inv (primes k a) (λ x. primes k b >>= λ y. Some (filtered p x y)) e q in
      let j = inv (primes k b) (λ y. Some (filtered p i.0 y)) e i.2 in
      let same : filtered p i.0 j.0 ≡ e = cc in
      let u = primes_form k a i.0 i.1 in
      let v = primes_form k b j.0 j.1 in
      rw (sym same, u.1, v.1) (refl, refl)
  primes_form k (opened p o a) e q =
      let i = inv (primes k a) (λ x. Some (opened p o x)) e q in
      let same : opened p o i.0 ≡ e = cc in
      let u = primes_form k a i.0 i.1 in
      rw (sym same, u.0, u.1) (refl, refl)
  primes_form k (tried p o a) e q =
      let i = inv (primes k a) (λ x. Some (tried p o x)) e q in
      let same : tried p o i.0 ≡ e = cc in
      let u = primes_form k a i.0 i.1 in
      rw (sym same, u.0, u.1) (refl, refl)

  each_form : (k : Primes) (t e : Exprs) → primes_each k t ≡ Some e → are_well_formed e ≡ are_well_formed t
  each_form k no_exprs e q = let same : no_exprs ≡ e = cc in rw (sym same) refl
  each_form k (more_exprs a es) e q =
      let i = inv (primes k a) (λ x. primes_each k es >>= λ y. Some (more_exprs x y)) e q in
      let j = inv (primes_each k es) (λ y. Some (more_exprs i.0 y)) e i.2 in
      let same : more_exprs i.0 j.0 ≡ e = cc in
      let u = primes_form k a i.0 i.1 in
      let v = each_form k es j.0 j.1 in
      rw (sym same, u.1, v) refl

  fields_form : (k : Primes) (t e : Fields) → primes_fields k t ≡ Some e → (fields_well_formed e ≡ fields_well_formed t) × (field_names e ≡ field_names t)
  fields_form k no_fields e q = let same : no_fields ≡ e = cc in rw (sym same) (refl, refl)
  fields_form k (more_fields o a fs) e q =
      let i = inv (primes k a) (λ x. primes_fields k fs >>= λ y. Some (more_fields o x y)) e q in
      let j = inv (primes_fields k fs) (λ y. Some (more_fields o i.0 y)) e i.2 in
      let same : more_fields o i.0 j.0 ≡ e = cc in
      let u = primes_form k a i.0 i.1 in
      let v = fields_form k fs j.0 j.1 in
      rw (sym same, u.1, v.0, v.1) (refl, refl)

  arms_form : (k : Primes) (t e : Arms) → primes_arms k t ≡ Some e → arms_well_formed e ≡ arms_well_formed t
  arms_form k no_arms e q = let same : no_arms ≡ e = cc in rw (sym same) refl
  arms_form k (other a) e q =
      let i = inv (primes k a) (λ x. Some (other x)) e q in
      let same : other i.0 ≡ e = cc in
      let u = primes_form k a i.0 i.1 in
      rw (sym same, u.1) refl
  arms_form k (more_arms a b arms) e q =
      let i = inv (primes k a) (λ x. primes k b >>= λ y. primes_arms k arms >>= λ z. Some (more_arms x y z)) e q in
      let j = inv (primes k b) (λ y. primes_arms k arms >>= λ z. Some (more_arms i.0 y z)) e i.2 in
      let l = inv (primes_arms k arms) (λ z. Some (more_arms i.0 j.0 z)) e j.2 in
      let same : more_arms i.0 j.0 l.0 ≡ e = cc in
      let u = primes_form k a i.0 i.1 in
      let v = primes_form k b j.0 j.1 in
      let w = arms_form k arms l.0 l.1 in
      rw (sym same, u.1, v.1, w) refl

  updates_form : (k : Primes) (t e : Updates) → primes_updates k t ≡ Some e → updates_well_formed e ≡ updates_well_formed t
  updates_form k no_updates e q = let same : no_updates ≡ e = cc in rw (sym same) refl
  updates_form k (more_updates es a us) e q =
      let i = inv (primes_each k es) (λ x. primes k a >>= λ y. primes_updates k us >>= λ z. Some (more_updates x y z)) e q in
      let j = inv (primes k a) (λ y. primes_updates k us >>= λ z. Some (more_updates i.0 y z)) e i.2 in
      let l = inv (primes_updates k us) (λ z. Some (more_updates i.0 j.0 z)) e j.2 in
      let same : more_updates i.0 j.0 l.0 ≡ e = cc in
      let u = each_form k es i.0 i.1 in
      let v = primes_form k a j.0 j.1 in
      let w = updates_form k us l.0 l.1 in
      rw (sym same, u, v.1, w) refl
