-- Primes leave an expression as large as it was, and a tuple a tuple.
use Rattle.std.proofs.Common.{◌≡◌, ℕ, refl, sym, Some}
use Rattle.tla_core.specs.declared.fault.Place.{Place}
use Rattle.tla_core.specs.Expr.{Expr, Exprs, Fields, Arms, Updates, constant, bound, now, next, unary, binary, equal, sub_seq, enumerated, tuple, record_of, conjunction, disjunction, implies, conditional, cases, assert, for_all, for_some, choose, image, function, except, member, not_member, subset, kind_set, booleans, sequences, power, functions, records, product, cup, cap, minus, filtered, opened, tried, no_exprs, more_exprs, no_fields, more_fields, no_arms, other, more_arms, no_updates, more_updates}
use Rattle.tla_model.specs.Size.{nodes, nodes_each, nodes_fields, nodes_arms, nodes_updates, depth, depth_each, depth_fields, depth_arms, depth_updates}
use Rattle.tla_scopes.specs.declared.primes.Primes.{Primes}
use Rattle.tla_scopes.specs.declared.primes.Primes.TheVariants.{Never, Once, Twice}
use Rattle.tla_scopes.specs.Maybe.{◌>>=◌}
use Rattle.tla_scopes.specs.Primes.{primes, primes_each, primes_fields, primes_arms, primes_updates, primed_now, primed_next}
use Rattle.tla_expand.specs.Private.Gives.{is_tuple}
use Rattle.tla_expand.proofs.Keeps.{inv}

abbrev AreAlike : Expr → Expr → Type 0
AreAlike e t = (nodes e ≡ nodes t) × (depth e ≡ depth t) × (is_tuple e ≡ is_tuple t)

same_sizes : (t e : Expr) → Some t ≡ Some e → AreAlike e t
same_sizes t e q = let same : t ≡ e = cc in rw (sym same) (refl, refl, refl)

now_sizes : (k : Primes) (p : Place) (i : ℕ) (e : Expr) → primed_now k p i ≡ Some e → AreAlike e (now p i)
now_sizes Never p i e q = same_sizes (now p i) e q
now_sizes Once p i e q = let same : next p i ≡ e = cc in rw (sym same) (refl, refl, refl)
now_sizes Twice p i e q = cc

next_sizes : (k : Primes) (p : Place) (i : ℕ) (e : Expr) → primed_next k p i ≡ Some e → AreAlike e (next p i)
next_sizes Never p i e q = same_sizes (next p i) e q
next_sizes Once p i e q = cc
next_sizes Twice p i e q = cc

mutual
  pub primes_sizes : (k : Primes) (t e : Expr) → primes k t ≡ Some e → AreAlike e t
  primes_sizes k (now p i) e q = now_sizes k p i e q
  primes_sizes k (next p i) e q = next_sizes k p i e q
  primes_sizes k (constant p o) e q = same_sizes (constant p o) e q
  primes_sizes k (bound p o) e q = same_sizes (bound p o) e q
  primes_sizes k (kind_set p o) e q = same_sizes (kind_set p o) e q
  primes_sizes k (booleans p) e q = same_sizes (booleans p) e q
  primes_sizes k (unary p o a) e q =
      let i = inv (primes k a) (λ x. Some (unary p o x)) e q in
      let same : unary p o i.0 ≡ e = cc in
      let u = primes_sizes k a i.0 i.1 in
      rw (sym same, u.0, u.1) (refl, refl, refl)
  primes_sizes k (sequences p a) e q =
      let i = inv (primes k a) (λ x. Some (sequences p x)) e q in
      let same : sequences p i.0 ≡ e = cc in
      let u = primes_sizes k a i.0 i.1 in
      rw (sym same, u.0, u.1) (refl, refl, refl)
  primes_sizes k (power p a) e q =
      let i = inv (primes k a) (λ x. Some (power p x)) e q in
      let same : power p i.0 ≡ e = cc in
      let u = primes_sizes k a i.0 i.1 in
      rw (sym same, u.0, u.1) (refl, refl, refl)
  primes_sizes k (opened p os a) e q =
      let i = inv (primes k a) (λ x. Some (opened p os x)) e q in
      let same : opened p os i.0 ≡ e = cc in
      let u = primes_sizes k a i.0 i.1 in
      rw (sym same, u.0, u.1) (refl, refl, refl)
  primes_sizes k (tried p n a) e q =
      let i = inv (primes k a) (λ x. Some (tried p n x)) e q in
      let same : tried p n i.0 ≡ e = cc in
      let u = primes_sizes k a i.0 i.1 in
      rw (sym same, u.0, u.1) (refl, refl, refl)
  primes_sizes k (binary p o a b) e q =
      let i = inv (primes k a) (λ x. primes k b >>= λ y. Some (binary p o x y)) e q in
      let j = inv (primes k b) (λ y. Some (binary p o i.0 y)) e i.2 in
      let same : binary p o i.0 j.0 ≡ e = cc in
      let u = primes_sizes k a i.0 i.1 in
      let v = primes_sizes k b j.0 j.1 in
      rw (sym same, u.0, v.0, u.1, v.1) (refl, refl, refl)
  primes_sizes k (equal p a b) e q =
      let i = inv (primes k a) (λ x. primes k b >>= λ y. Some (equal p x y)) e q in
      let j = inv (primes k b) (λ y. Some (equal p i.0 y)) e i.2 in
      let same : equal p i.0 j.0 ≡ e = cc in
      let u = primes_sizes k a i.0 i.1 in
      let v = primes_sizes k b j.0 j.1 in
      rw (sym same, u.0, v.0, u.1, v.1) (refl, refl, refl)
  primes_sizes k (implies p a b) e q =
      let i = inv (primes k a) (λ x. primes k b >>= λ y. Some (implies p x y)) e q in
      let j = inv (primes k b) (λ y. Some (implies p i.0 y)) e i.2 in
      let same : implies p i.0 j.0 ≡ e = cc in
      let u = primes_sizes k a i.0 i.1 in
      let v = primes_sizes k b j.0 j.1 in
      rw (sym same, u.0, v.0, u.1, v.1) (refl, refl, refl)
  primes_sizes k (assert p a b) e q =
      let i = inv (primes k a) (λ x. primes k b >>= λ y. Some (assert p x y)) e q in
      let j = inv (primes k b) (λ y. Some (assert p i.0 y)) e i.2 in
      let same : assert p i.0 j.0 ≡ e = cc in
      let u = primes_sizes k a i.0 i.1 in
      let v = primes_sizes k b j.0 j.1 in
      rw (sym same, u.0, v.0, u.1, v.1) (refl, refl, refl)
  primes_sizes k (member p a b) e q =
      let i = inv (primes k a) (λ x. primes k b >>= λ y. Some (member p x y)) e q in
      let j = inv (primes k b) (λ y. Some (member p i.0 y)) e i.2 in
      let same : member p i.0 j.0 ≡ e = cc in
      let u = primes_sizes k a i.0 i.1 in
      let v = primes_sizes k b j.0 j.1 in
      rw (sym same, u.0, v.0, u.1, v.1) (refl, refl, refl)
  primes_sizes k (not_member p a b) e q =
      let i = inv (primes k a) (λ x. primes k b >>= λ y. Some (not_member p x y)) e q in
      let j = inv (primes k b) (λ y. Some (not_member p i.0 y)) e i.2 in
      let same : not_member p i.0 j.0 ≡ e = cc in
      let u = primes_sizes k a i.0 i.1 in
      let v = primes_sizes k b j.0 j.1 in
      rw (sym same, u.0, v.0, u.1, v.1) (refl, refl, refl)
  primes_sizes k (subset p a b) e q =
      let i = inv (primes k a) (λ x. primes k b >>= λ y. Some (subset p x y)) e q in
      let j = inv (primes k b) (λ y. Some (subset p i.0 y)) e i.2 in
      let same : subset p i.0 j.0 ≡ e = cc in
      let u = primes_sizes k a i.0 i.1 in
      let v = primes_sizes k b j.0 j.1 in
      rw (sym same, u.0, v.0, u.1, v.1) (refl, refl, refl)
  primes_sizes k (functions p a b) e q =
      let i = inv (primes k a) (λ x. primes k b >>= λ y. Some (functions p x y)) e q in
      let j = inv (primes k b) (λ y. Some (functions p i.0 y)) e i.2 in
      let same : functions p i.0 j.0 ≡ e = cc in
      let u = primes_sizes k a i.0 i.1 in
      let v = primes_sizes k b j.0 j.1 in
      rw (sym same, u.0, v.0, u.1, v.1) (refl, refl, refl)
  primes_sizes k (cup p a b) e q =
      let i = inv (primes k a) (λ x. primes k b >>= λ y. Some (cup p x y)) e q in
      let j = inv (primes k b) (λ y. Some (cup p i.0 y)) e i.2 in
      let same : cup p i.0 j.0 ≡ e = cc in
      let u = primes_sizes k a i.0 i.1 in
      let v = primes_sizes k b j.0 j.1 in
      rw (sym same, u.0, v.0, u.1, v.1) (refl, refl, refl)
  primes_sizes k (cap p a b) e q =
      let i = inv (primes k a) (λ x. primes k b >>= λ y. Some (cap p x y)) e q in
      let j = inv (primes k b) (λ y. Some (cap p i.0 y)) e i.2 in
      let same : cap p i.0 j.0 ≡ e = cc in
      let u = primes_sizes k a i.0 i.1 in
      let v = primes_sizes k b j.0 j.1 in
      rw (sym same, u.0, v.0, u.1, v.1) (refl, refl, refl)
  primes_sizes k (minus p a b) e q =
      let i = inv (primes k a) (λ x. primes k b >>= λ y. Some (minus p x y)) e q in
      let j = inv (primes k b) (λ y. Some (minus p i.0 y)) e i.2 in
      let same : minus p i.0 j.0 ≡ e = cc in
      let u = primes_sizes k a i.0 i.1 in
      let v = primes_sizes k b j.0 j.1 in
      rw (sym same, u.0, v.0, u.1, v.1) (refl, refl, refl)
  primes_sizes k (sub_seq p a b c) e q =
      let i = inv (primes k a) (λ x. primes k b >>= λ y. primes k c >>= λ z. Some (sub_seq p x y z)) e q in
      let j = inv (primes k b) (λ y. primes k c >>= λ z. Some (sub_seq p i.0 y z)) e i.2 in
      let l = inv (primes k c) (λ z. Some (sub_seq p i.0 j.0 z)) e j.2 in
      let same : sub_seq p i.0 j.0 l.0 ≡ e = cc in
      let u = primes_sizes k a i.0 i.1 in
      let v = primes_sizes k b j.0 j.1 in
      let w = primes_sizes k c l.0 l.1 in
      rw (sym same, u.0, v.0, w.0, u.1, v.1, w.1) (refl, refl, refl)
  primes_sizes k (conditional p a b c) e q =
      let i = inv (primes k a) (λ x. primes k b >>= λ y. primes k c >>= λ z. Some (conditional p x y z)) e q in
      let j = inv (primes k b) (λ y. primes k c >>= λ z. Some (conditional p i.0 y z)) e i.2 in
      let l = inv (primes k c) (λ z. Some (conditional p i.0 j.0 z)) e j.2 in
      let same : conditional p i.0 j.0 l.0 ≡ e = cc in
      let u = primes_sizes k a i.0 i.1 in
      let v = primes_sizes k b j.0 j.1 in
      let w = primes_sizes k c l.0 l.1 in
      rw (sym same, u.0, v.0, w.0, u.1, v.1, w.1) (refl, refl, refl)
  primes_sizes k (for_all p a b) e q =
      let i = inv (primes k a) (λ x. primes k b >>= λ y. Some (for_all p x y)) e q in
      let j = inv (primes k b) (λ y. Some (for_all p i.0 y)) e i.2 in
      let same : for_all p i.0 j.0 ≡ e = cc in
      let u = primes_sizes k a i.0 i.1 in
      let v = primes_sizes k b j.0 j.1 in
      rw (sym same, u.0, v.0, u.1, v.1) (refl, refl, refl)
  primes_sizes k (for_some p a b) e q =
      let i = inv (primes k a) (λ x. primes k b >>= λ y. Some (for_some p x y)) e q in
      let j = inv (primes k b) (λ y. Some (for_some p i.0 y)) e i.2 in
      let same : for_some p i.0 j.0 ≡ e = cc in
      let u = primes_sizes k a i.0 i.1 in
      let v = primes_sizes k b j.0 j.1 in
      rw (sym same, u.0, v.0, u.1, v.1) (refl, refl, refl)
  primes_sizes k (choose p a b) e q =
      let i = inv (primes k a) (λ x. primes k b >>= λ y. Some (choose p x y)) e q in
      let j = inv (primes k b) (λ y. Some (choose p i.0 y)) e i.2 in
      let same : choose p i.0 j.0 ≡ e = cc in
      let u = primes_sizes k a i.0 i.1 in
      let v = primes_sizes k b j.0 j.1 in
      rw (sym same, u.0, v.0, u.1, v.1) (refl, refl, refl)
  primes_sizes k (filtered p a b) e q =
      let i = inv (primes k a) (λ x. primes k b >>= λ y. Some (filtered p x y)) e q in
      let j = inv (primes k b) (λ y. Some (filtered p i.0 y)) e i.2 in
      let same : filtered p i.0 j.0 ≡ e = cc in
      let u = primes_sizes k a i.0 i.1 in
      let v = primes_sizes k b j.0 j.1 in
      rw (sym same, u.0, v.0, u.1, v.1) (refl, refl, refl)
  primes_sizes k (enumerated p es) e q =
      let i = inv (primes_each k es) (λ x. Some (enumerated p x)) e q in
      let same : enumerated p i.0 ≡ e = cc in
      let u = each_sizes k es i.0 i.1 in
      rw (sym same, u.0, u.1) (refl, refl, refl)
  primes_sizes k (tuple p es) e q =
      let i = inv (primes_each k es) (λ x. Some (tuple p x)) e q in
      let same : tuple p i.0 ≡ e = cc in
      let u = each_sizes k es i.0 i.1 in
      rw (sym same, u.0, u.1) (refl, refl, refl)
  primes_sizes k (conjunction p es) e q =
      let i = inv (primes_each k es) (λ x. Some (conjunction p x)) e q in
      let same : conjunction p i.0 ≡ e = cc in
      let u = each_sizes k es i.0 i.1 in
      rw (sym same, u.0, u.1) (refl, refl, refl)
  primes_sizes k (disjunction p es) e q =
      let i = inv (primes_each k es) (λ x. Some (disjunction p x)) e q in
      let same : disjunction p i.0 ≡ e = cc in
      let u = each_sizes k es i.0 i.1 in
      rw (sym same, u.0, u.1) (refl, refl, refl)
  primes_sizes k (product p es) e q =
      let i = inv (primes_each k es) (λ x. Some (product p x)) e q in
      let same : product p i.0 ≡ e = cc in
      let u = each_sizes k es i.0 i.1 in
      rw (sym same, u.0, u.1) (refl, refl, refl)
  primes_sizes k (record_of p fs) e q =
      let i = inv (primes_fields k fs) (λ x. Some (record_of p x)) e q in
      let same : record_of p i.0 ≡ e = cc in
      let u = fields_sizes k fs i.0 i.1 in
      rw (sym same, u.0, u.1) (refl, refl, refl)
  primes_sizes k (records p fs) e q =
      let i = inv (primes_fields k fs) (λ x. Some (records p x)) e q in
      let same : records p i.0 ≡ e = cc in
      let u = fields_sizes k fs i.0 i.1 in
      rw (sym same, u.0, u.1) (refl, refl, refl)
  primes_sizes k (cases p arms) e q =
      let i = inv (primes_arms k arms) (λ x. Some (cases p x)) e q in
      let same : cases p i.0 ≡ e = cc in
      let u = arms_sizes k arms i.0 i.1 in
      rw (sym same, u.0, u.1) (refl, refl, refl)
  primes_sizes k (image p es a) e q =
      let i = inv (primes_each k es) (λ x. primes k a >>= λ y. Some (image p x y)) e q in
      let j = inv (primes k a) (λ y. Some (image p i.0 y)) e i.2 in
      let same : image p i.0 j.0 ≡ e = cc in
      let u = each_sizes k es i.0 i.1 in
      let v = primes_sizes k a j.0 j.1 in
      rw (sym same, u.0, v.0, u.1, v.1) (refl, refl, refl)
  primes_sizes k (function p es a) e q =
      let i = inv (primes_each k es) (λ x. primes k a >>= λ y. Some (function p x y)) e q in
      let j = inv (primes k a) (λ y. Some (function p i.0 y)) e i.2 in
      let same : function p i.0 j.0 ≡ e = cc in
      let u = each_sizes k es i.0 i.1 in
      let v = primes_sizes k a j.0 j.1 in
      rw (sym same, u.0, v.0, u.1, v.1) (refl, refl, refl)
  primes_sizes k (except p a us) e q =
      let i = inv (primes k a) (λ x. primes_updates k us >>= λ y. Some (except p x y)) e q in
      let j = inv (primes_updates k us) (λ y. Some (except p i.0 y)) e i.2 in
      let same : except p i.0 j.0 ≡ e = cc in
      let u = primes_sizes k a i.0 i.1 in
      let v = updates_sizes k us j.0 j.1 in
      rw (sym same, u.0, v.0, u.1, v.1) (refl, refl, refl)

  each_sizes : (k : Primes) (t e : Exprs) → primes_each k t ≡ Some e → (nodes_each e ≡ nodes_each t) × (depth_each e ≡ depth_each t)
  each_sizes k no_exprs e q = let same : no_exprs ≡ e = cc in rw (sym same) (refl, refl)
  each_sizes k (more_exprs a es) e q =
      let i = inv (primes k a) (λ x. primes_each k es >>= λ y. Some (more_exprs x y)) e q in
      let j = inv (primes_each k es) (λ y. Some (more_exprs i.0 y)) e i.2 in
      let same : more_exprs i.0 j.0 ≡ e = cc in
      let u = primes_sizes k a i.0 i.1 in
      let v = each_sizes k es j.0 j.1 in
      rw (sym same, u.0, v.0, u.1, v.1) (refl, refl)

  fields_sizes : (k : Primes) (t e : Fields) → primes_fields k t ≡ Some e → (nodes_fields e ≡ nodes_fields t) × (depth_fields e ≡ depth_fields t)
  fields_sizes k no_fields e q = let same : no_fields ≡ e = cc in rw (sym same) (refl, refl)
  fields_sizes k (more_fields o a fs) e q =
      let i = inv (primes k a) (λ x. primes_fields k fs >>= λ y. Some (more_fields o x y)) e q in
      let j = inv (primes_fields k fs) (λ y. Some (more_fields o i.0 y)) e i.2 in
      let same : more_fields o i.0 j.0 ≡ e = cc in
      let u = primes_sizes k a i.0 i.1 in
      let v = fields_sizes k fs j.0 j.1 in
      rw (sym same, u.0, v.0, u.1, v.1) (refl, refl)

  arms_sizes : (k : Primes) (t e : Arms) → primes_arms k t ≡ Some e → (nodes_arms e ≡ nodes_arms t) × (depth_arms e ≡ depth_arms t)
  arms_sizes k no_arms e q = let same : no_arms ≡ e = cc in rw (sym same) (refl, refl)
  arms_sizes k (other a) e q =
      let i = inv (primes k a) (λ x. Some (other x)) e q in
      let same : other i.0 ≡ e = cc in
      let u = primes_sizes k a i.0 i.1 in
      rw (sym same, u.0, u.1) (refl, refl)
  arms_sizes k (more_arms a b arms) e q =
      let i = inv (primes k a) (λ x. primes k b >>= λ y. primes_arms k arms >>= λ z. Some (more_arms x y z)) e q in
      let j = inv (primes k b) (λ y. primes_arms k arms >>= λ z. Some (more_arms i.0 y z)) e i.2 in
      let l = inv (primes_arms k arms) (λ z. Some (more_arms i.0 j.0 z)) e j.2 in
      let same : more_arms i.0 j.0 l.0 ≡ e = cc in
      let u = primes_sizes k a i.0 i.1 in
      let v = primes_sizes k b j.0 j.1 in
      let w = arms_sizes k arms l.0 l.1 in
      rw (sym same, u.0, v.0, w.0, u.1, v.1, w.1) (refl, refl)

  updates_sizes : (k : Primes) (t e : Updates) → primes_updates k t ≡ Some e → (nodes_updates e ≡ nodes_updates t) × (depth_updates e ≡ depth_updates t)
  updates_sizes k no_updates e q = let same : no_updates ≡ e = cc in rw (sym same) (refl, refl)
  updates_sizes k (more_updates es a us) e q =
      let i = inv (primes_each k es) (λ x. primes k a >>= λ y. primes_updates k us >>= λ z. Some (more_updates x y z)) e q in
      let j = inv (primes k a) (λ y. primes_updates k us >>= λ z. Some (more_updates i.0 y z)) e i.2 in
      let l = inv (primes_updates k us) (λ z. Some (more_updates i.0 j.0 z)) e j.2 in
      let same : more_updates i.0 j.0 l.0 ≡ e = cc in
      let u = each_sizes k es i.0 i.1 in
      let v = primes_sizes k a j.0 j.1 in
      let w = updates_sizes k us l.0 l.1 in
      rw (sym same, u.0, v.0, w.0, u.1, v.1, w.1) (refl, refl)
