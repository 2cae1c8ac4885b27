-- An expression with primes names what the expression names.
use Rattle.std.proofs.Common.{◌≡◌, ℕ, ◌+◌, Bool, true, refl, sym, Option, Some, None}
use Rattle.std.specs.Prelude.{nat_lt}
use Rattle.tla_core.specs.declared.fault.Place.{Place}
use Rattle.tla_core.specs.Patterns.{items_in}
use Rattle.tla_core.specs.Expr.{Expr, Exprs, Fields, Arms, Updates, constant, bound, now, next, unary, binary, equal, sub_seq, enumerated, tuple, record_of, conjunction, disjunction, implies, conditional, cases, assert, for_all, for_some, choose, image, function, except, member, not_member, subset, kind_set, booleans, sequences, power, functions, records, product, cup, cap, minus, filtered, opened, tried, no_exprs, more_exprs, no_fields, more_fields, no_arms, other, more_arms, no_updates, more_updates}
use Rattle.tla_core.specs.Fits.{fits, fits_all, fits_fields, fits_arms, fits_updates, count}
use Rattle.tla_scopes.specs.declared.primes.Primes.{Primes}
use Rattle.tla_scopes.specs.declared.primes.Primes.TheVariants.{Never, Once, Twice}
use Rattle.tla_expand.specs.Fits.{Stays}
use Rattle.tla_scopes.specs.Maybe.{◌>>=◌}
use Rattle.tla_scopes.specs.Primes.{primes, primes_each, primes_fields, primes_arms, primes_updates, primed_now, primed_next}

-- what a step of the expansion had, and what it made of it
pub inv : {A B : Type 0} (o : Option A) (k : A → Option B) (y : B) → (o >>= k) ≡ Some y → (x : A) × (o ≡ Some x) × (k x ≡ Some y)
inv None k y h = cc
inv (Some x) k y h = (x, refl, h)

now_fits : (k : Primes) (v n : ℕ) (s : Bool) → Stays k v n s → (p : Place) (i b : ℕ) (e : Expr) → primed_now k p i ≡ Some e → fits e b n s ≡ nat_lt i v
now_fits Never v n s h p i b e q = let same : now p i ≡ e = cc in rw (sym same, h.0, h.1) refl
now_fits Once v n s h p i b e q = let same : next p i ≡ e = cc in rw (sym same, h) refl
now_fits Twice v n s h p i b e q = cc

next_fits : (k : Primes) (v n : ℕ) (s : Bool) → Stays k v n s → (p : Place) (i b : ℕ) (e : Expr) → primed_next k p i ≡ Some e → fits e b n s ≡ nat_lt i v
next_fits Never v n s h p i b e q = let same : next p i ≡ e = cc in rw (sym same, h.0) refl
next_fits Once v n s h p i b e q = cc
next_fits Twice v n s h p i b e q = cc

primes_count : (k : Primes) (es xs : Exprs) → primes_each k es ≡ Some xs → count xs ≡ count es
primes_count k no_exprs xs q = let same : no_exprs ≡ xs = cc in rw (sym same) refl
primes_count k (more_exprs e es) xs q =
    let i = inv (primes k e) (λ x. primes_each k es >>= λ ys. Some (more_exprs x ys)) xs q in
    let j = inv (primes_each k es) (λ ys. Some (more_exprs i.0 ys)) xs i.2 in
    let same : more_exprs i.0 j.0 ≡ xs = cc in
    rw (sym same, primes_count k es j.0 j.1) refl

same_fits : (k : Primes) (t : Expr) (v n b : ℕ) (s : Bool) (r : Bool) → fits t b n s ≡ r → (e : Expr) → Some t ≡ Some e → fits e b n s ≡ r
same_fits k t v n b s r h e q = let same : t ≡ e = cc in rw (sym same) h

mutual
  pub primes_fit : (k : Primes) (v n : ℕ) (s : Bool) → Stays k v n s → (t : Expr) (b : ℕ) (e : Expr) → primes k t ≡ Some e → fits e b n s ≡ fits t b v true
  primes_fit k v n s h (constant p w) b e q = same_fits k (constant p w) v n b s true refl e q
  primes_fit k v n s h (bound p i) b e q = same_fits k (bound p i) v n b s (nat_lt i b) refl e q
  primes_fit k v n s h (now p i) b e q = now_fits k v n s h p i b e q
  primes_fit k v n s h (next p i) b e q = next_fits k v n s h p i b e q
  primes_fit k v n s h (kind_set p o) b e q = same_fits k (kind_set p o) v n b s true refl e q
  primes_fit k v n s h (booleans p) b e q = same_fits k (booleans p) v n b s true refl e q
  primes_fit k v n s h (unary p o a) b e q =
      let i = inv (primes k a) (λ x. Some (unary p o x)) e q in
      let same : unary p o i.0 ≡ e = cc in
      rw (sym same) (primes_fit k v n s h a b i.0 i.1)
  primes_fit k v n s h (sequences p a) b e q =
      let i = inv (primes k a) (λ x. Some (sequences p x)) e q in
      let same : sequences p i.0 ≡ e = cc in
      rw (sym same) (primes_fit k v n s h a b i.0 i.1)
  primes_fit k v n s h (power p a) b e q =
      let i = inv (primes k a) (λ x. Some (power p x)) e q in
      let same : power p i.0 ≡ e = cc in
      rw (sym same) (primes_fit k v n s h a b i.0 i.1)
  primes_fit k v n s h (binary p o a c) b e q =
      let i = inv (primes k a) (λ x. primes k c >>= λ y. Some (binary p o x y)) e q in
      let j = inv (primes k c) (λ y. Some (binary p o i.0 y)) e i.2 in
      let same : binary p o i.0 j.0 ≡ e = cc in
      rw (sym same, primes_fit k v n s h a b i.0 i.1, primes_fit k v n s h c b j.0 j.1) refl
  primes_fit k v n s h (equal p a c) b e q =
      let i = inv (primes k a) (λ x. primes k c >>= λ y. Some (equal p x y)) e q in
      let j = inv (primes k c) (λ y. Some (equal p i.0 y)) e i.2 in
      let same : equal p i.0 j.0 ≡ e = cc in
      rw (sym same, primes_fit k v n s h a b i.0 i.1, primes_fit k v n s h c b j.0 j.1) refl
  primes_fit k v n s h (implies p a c) b e q =
      let i = inv (primes k a) (λ x. primes k c >>= λ y. Some (implies p x y)) e q in
      let j = inv (primes k c) (λ y. Some (implies p i.0 y)) e i.2 in
      let same : implies p i.0 j.0 ≡ e = cc in
      rw (sym same, primes_fit k v n s h a b i.0 i.1, primes_fit k v n s h c b j.0 j.1) refl
  primes_fit k v n s h (assert p a c) b e q =
      let i = inv (primes k a) (λ x. primes k c >>= λ y. Some (assert p x y)) e q in
      let j = inv (primes k c) (λ y. Some (assert p i.0 y)) e i.2 in
      let same : assert p i.0 j.0 ≡ e = cc in
      rw (sym same, primes_fit k v n s h a b i.0 i.1, primes_fit k v n s h c b j.0 j.1) refl
  primes_fit k v n s h (member p a c) b e q =
      let i = inv (primes k a) (λ x. primes k c >>= λ y. Some (member p x y)) e q in
      let j = inv (primes k c) (λ y. Some (member p i.0 y)) e i.2 in
      let same : member p i.0 j.0 ≡ e = cc in
      rw (sym same, primes_fit k v n s h a b i.0 i.1, primes_fit k v n s h c b j.0 j.1) refl
  primes_fit k v n s h (not_member p a c) b e q =
      let i = inv (primes k a) (λ x. primes k c >>= λ y. Some (not_member p x y)) e q in
      let j = inv (primes k c) (λ y. Some (not_member p i.0 y)) e i.2 in
      let same : not_member p i.0 j.0 ≡ e = cc in
      rw (sym same, primes_fit k v n s h a b i.0 i.1, primes_fit k v n s h c b j.0 j.1) refl
  primes_fit k v n s h (subset p a c) b e q =
      let i = inv (primes k a) (λ x. primes k c >>= λ y. Some (subset p x y)) e q in
      let j = inv (primes k c) (λ y. Some (subset p i.0 y)) e i.2 in
      let same : subset p i.0 j.0 ≡ e = cc in
      rw (sym same, primes_fit k v n s h a b i.0 i.1, primes_fit k v n s h c b j.0 j.1) refl
  primes_fit k v n s h (functions p a c) b e q =
      let i = inv (primes k a) (λ x. primes k c >>= λ y. Some (functions p x y)) e q in
      let j = inv (primes k c) (λ y. Some (functions p i.0 y)) e i.2 in
      let same : functions p i.0 j.0 ≡ e = cc in
      rw (sym same, primes_fit k v n s h a b i.0 i.1, primes_fit k v n s h c b j.0 j.1) refl
  primes_fit k v n s h (cup p a c) b e q =
      let i = inv (primes k a) (λ x. primes k c >>= λ y. Some (cup p x y)) e q in
      let j = inv (primes k c) (λ y. Some (cup p i.0 y)) e i.2 in
      let same : cup p i.0 j.0 ≡ e = cc in
      rw (sym same, primes_fit k v n s h a b i.0 i.1, primes_fit k v n s h c b j.0 j.1) refl
  primes_fit k v n s h (cap p a c) b e q =
      let i = inv (primes k a) (λ x. primes k c >>= λ y. Some (cap p x y)) e q in
      let j = inv (primes k c) (λ y. Some (cap p i.0 y)) e i.2 in
      let same : cap p i.0 j.0 ≡ e = cc in
      rw (sym same, primes_fit k v n s h a b i.0 i.1, primes_fit k v n s h c b j.0 j.1) refl
  primes_fit k v n s h (minus p a c) b e q =
      let i = inv (primes k a) (λ x. primes k c >>= λ y. Some (minus p x y)) e q in
      let j = inv (primes k c) (λ y. Some (minus p i.0 y)) e i.2 in
      let same : minus p i.0 j.0 ≡ e = cc in
      rw (sym same, primes_fit k v n s h a b i.0 i.1, primes_fit k v n s h c b j.0 j.1) refl
  primes_fit k v n s h (sub_seq p a c d) b e q =
      let i = inv (primes k a) (λ x. primes k c >>= λ y. primes k d >>= λ z. Some (sub_seq p x y z)) e q in
      let j = inv (primes k c) (λ y. primes k d >>= λ z. Some (sub_seq p i.0 y z)) e i.2 in
      let l = inv (primes k d) (λ z. Some (sub_seq p i.0 j.0 z)) e j.2 in
      let same : sub_seq p i.0 j.0 l.0 ≡ e = cc in
      rw (sym same, primes_fit k v n s h a b i.0 i.1, primes_fit k v n s h c b j.0 j.1, primes_fit k v n s h d b l.0 l.1) refl
  primes_fit k v n s h (conditional p a c d) b e q =
      let i = inv (primes k a) (λ x. primes k c >>= λ y. primes k d >>= λ z. Some (conditional p x y z)) e q in
      let j = inv (primes k c) (λ y. primes k d >>= λ z. Some (conditional p i.0 y z)) e i.2 in
      let l = inv (primes k d) (λ z. Some (conditional p i.0 j.0 z)) e j.2 in
      let same : conditional p i.0 j.0 l.0 ≡ e = cc in
      rw (sym same, primes_fit k v n s h a b i.0 i.1, primes_fit k v n s h c b j.0 j.1, primes_fit k v n s h d b l.0 l.1) refl
  primes_fit k v n s h (for_all p a c) b e q =
      let i = inv (primes k a) (λ x. primes k c >>= λ y. Some (for_all p x y)) e q in
      let j = inv (primes k c) (λ y. Some (for_all p i.0 y)) e i.2 in
      let same : for_all p i.0 j.0 ≡ e = cc in
      rw (sym same, primes_fit k v n s h a b i.0 i.1, primes_fit k v n s h c (b + 1) j.0 j.1) refl
  primes_fit k v n s h (for_some p a c) b e q =
      let i = inv (primes k a) (λ x. primes k c >>= λ y. Some (for_some p x y)) e q in
      let j = inv (primes k c) (λ y. Some (for_some p i.0 y)) e i.2 in
      let same : for_some p i.0 j.0 ≡ e = cc in
      rw (sym same, primes_fit k v n s h a b i.0 i.1, primes_fit k v n s h c (b + 1) j.0 j.1) refl
  primes_fit k v n s h (choose p a c) b e q =
      let i = inv (primes k a) (λ x. primes k c >>= λ y. Some (choose p x y)) e q in
      let j = inv (primes k c) (λ y. Some (choose p i.0 y)) e i.2 in
      let same : choose p i.0 j.0 ≡ e = cc in
      rw (sym same, primes_fit k v n s h a b i.0 i.1, primes_fit k v n s h c (b + 1) j.0 j.1) refl
  primes_fit k v n s h (filtered p a c) b e q =
      let i = inv (primes k a) (λ x. primes k c >>= λ y. Some (filtered p x y)) e q in
      let j = inv (primes k c) (λ y. Some (filtered p i.0 y)) e i.2 in
      let same : filtered p i.0 j.0 ≡ e = cc in
      rw (sym same, primes_fit k v n s h a b i.0 i.1, primes_fit k v n s h c (b + 1) j.0 j.1) refl
  primes_fit k v n s h (opened p os a) b e q =
      let i = inv (primes k a) (λ x. Some (opened p os x)) e q in
      let same : opened p os i.0 ≡ e = cc in
      rw (sym same, primes_fit k v n s h a (b + items_in os) i.0 i.1) refl
  primes_fit k v n s h (tried p m a) b e q =
      let i = inv (primes k a) (λ x. Some (tried p m x)) e q in
      let same : tried p m i.0 ≡ e = cc in
      rw (sym same, primes_fit k v n s h a b i.0 i.1) refl
  primes_fit k v n s h (enumerated p es) b e q =
      let i = inv (primes_each k es) (λ x. Some (enumerated p x)) e q in
      let same : enumerated p i.0 ≡ e = cc in
      rw (sym same) (each_fit k v n s h es b i.0 i.1)
  primes_fit k v n s h (tuple p es) b e q =
      let i = inv (primes_each k es) (λ x. Some (tuple p x)) e q in
      let same : tuple p i.0 ≡ e = cc in
      rw (sym same) (each_fit k v n s h es b i.0 i.1)
  primes_fit k v n s h (conjunction p es) b e q =
      let i = inv (primes_each k es) (λ x. Some (conjunction p x)) e q in
      let same : conjunction p i.0 ≡ e = cc in
      rw (sym same) (each_fit k v n s h es b i.0 i.1)
  primes_fit k v n s h (disjunction p es) b e q =
      let i = inv (primes_each k es) (λ x. Some (disjunction p x)) e q in
      let same : disjunction p i.0 ≡ e = cc in
      rw (sym same) (each_fit k v n s h es b i.0 i.1)
  primes_fit k v n s h (product p es) b e q =
      let i = inv (primes_each k es) (λ x. Some (product p x)) e q in
      let same : product p i.0 ≡ e = cc in
      rw (sym same) (each_fit k v n s h es b i.0 i.1)
  primes_fit k v n s h (record_of p fs) b e q =
      let i = inv (primes_fields k fs) (λ x. Some (record_of p x)) e q in
      let same : record_of p i.0 ≡ e = cc in
      rw (sym same) (fields_fit k v n s h fs b i.0 i.1)
  primes_fit k v n s h (records p fs) b e q =
      let i = inv (primes_fields k fs) (λ x. Some (records p x)) e q in
      let same : records p i.0 ≡ e = cc in
      rw (sym same) (fields_fit k v n s h fs b i.0 i.1)
  primes_fit k v n s h (cases p arms) b e q =
      let i = inv (primes_arms k arms) (λ x. Some (cases p x)) e q in
      let same : cases p i.0 ≡ e = cc in
      rw (sym same) (arms_fit k v n s h arms b i.0 i.1)
  primes_fit k v n s h (image p es a) b e q =
      let i = inv (primes_each k es) (λ x. primes k a >>= λ y. Some (image p x y)) e q in
      let j = inv (primes k a) (λ y. Some (image p i.0 y)) e i.2 in
      let same : image p i.0 j.0 ≡ e = cc in
      rw (sym same, primes_count k es i.0 i.1, each_fit k v n s h es b i.0 i.1, primes_fit k v n s h a (b + count es) j.0 j.1) refl
  primes_fit k v n s h (function p es a) b e q =
      let i = inv (primes_each k es) (λ x. primes k a >>= λ y. Some (function p x y)) e q in
      let j = inv (primes k a) (λ y. Some (function p i.0 y)) e i.2 in
      let same : function p i.0 j.0 ≡ e = cc in
      rw (sym same, primes_count k es i.0 i.1, each_fit k v n s h es b i.0 i.1, primes_fit k v n s h a (b + count es) j.0 j.1) refl
  primes_fit k v n s h (except p a us) b e q =
      let i = inv (primes k a) (λ x. primes_updates k us >>= λ y. Some (except p x y)) e q in
      let j = inv (primes_updates k us) (λ y. Some (except p i.0 y)) e i.2 in
      let same : except p i.0 j.0 ≡ e = cc in
      rw (sym same, primes_fit k v n s h a b i.0 i.1, updates_fit k v n s h us b j.0 j.1) refl

  pub each_fit : (k : Primes) (v n : ℕ) (s : Bool) → Stays k v n s → (ts : Exprs) (b : ℕ) (es : Exprs) → primes_each k ts ≡ Some es → fits_all es b n s ≡ fits_all ts b v true
  each_fit k v n s h no_exprs b es q = let same : no_exprs ≡ es = cc in rw (sym same) refl
  each_fit k v n s h (more_exprs t ts) b es q =
      let i = inv (primes k t) (λ x. primes_each k ts >>= λ y. Some (more_exprs x y)) es q in
      let j = inv (primes_each k ts) (λ y. Some (more_exprs i.0 y)) es i.2 in
      let same : more_exprs i.0 j.0 ≡ es = cc in
      rw (sym same, primes_fit k v n s h t b i.0 i.1, each_fit k v n s h ts b j.0 j.1) refl

  pub fields_fit : (k : Primes) (v n : ℕ) (s : Bool) → Stays k v n s → (ts : Fields) (b : ℕ) (es : Fields) → primes_fields k ts ≡ Some es → fits_fields es b n s ≡ fits_fields ts b v true
  fields_fit k v n s h no_fields b es q = let same : no_fields ≡ es = cc in rw (sym same) refl
  fields_fit k v n s h (more_fields w t ts) b es q =
      let i = inv (primes k t) (λ x. primes_fields k ts >>= λ y. Some (more_fields w x y)) es q in
      let j = inv (primes_fields k ts) (λ y. Some (more_fields w i.0 y)) es i.2 in
      let same : more_fields w i.0 j.0 ≡ es = cc in
      rw (sym same, primes_fit k v n s h t b i.0 i.1, fields_fit k v n s h ts b j.0 j.1) refl

  pub arms_fit : (k : Primes) (v n : ℕ) (s : Bool) → Stays k v n s → (ts : Arms) (b : ℕ) (es : Arms) → primes_arms k ts ≡ Some es → fits_arms es b n s ≡ fits_arms ts b v true
  arms_fit k v n s h no_arms b es q = let same : no_arms ≡ es = cc in rw (sym same) refl
  arms_fit k v n s h (other t) b es q =
      let i = inv (primes k t) (λ x. Some (other x)) es q in
      let same : other i.0 ≡ es = cc in
      rw (sym same) (primes_fit k v n s h t b i.0 i.1)
  arms_fit k v n s h (more_arms g t ts) b es q =
      let i = inv (primes k g) (λ x. primes k t >>= λ y. primes_arms k ts >>= λ z. Some (more_arms x y z)) es q in
      let j = inv (primes k t) (λ y. primes_arms k ts >>= λ z. Some (more_arms i.0 y z)) es i.2 in
      let l = inv (primes_arms k ts) (λ z. Some (more_arms i.0 j.0 z)) es j.2 in
      let same : more_arms i.0 j.0 l.0 ≡ es = cc in
      rw (sym same, primes_fit k v n s h g b i.0 i.1, primes_fit k v n s h t b j.0 j.1, arms_fit k v n s h ts b l.0 l.1) refl

  pub updates_fit : (k : Primes) (v n : ℕ) (s : Bool) → Stays k v n s → (ts : Updates) (b : ℕ) (es : Updates) → primes_updates k ts ≡ Some es → fits_updates es b n s ≡ fits_updates ts b v true
  updates_fit k v n s h no_updates b es q = let same : no_updates ≡ es = cc in rw (sym same) refl
  updates_fit k v n s h (more_updates path t ts) b es q =
      let i = inv (primes_each k path) (λ x. primes k t >>= λ y. primes_updates k ts >>= λ z. Some (more_updates x y z)) es q in
      let j = inv (primes k t) (λ y. primes_updates k ts >>= λ z. Some (more_updates i.0 y z)) es i.2 in
      let l = inv (primes_updates k ts) (λ z. Some (more_updates i.0 j.0 z)) es j.2 in
      let same : more_updates i.0 j.0 l.0 ≡ es = cc in
      rw (sym same, each_fit k v n s h path b i.0 i.1, primes_fit k v n s h t (b + 1) j.0 j.1, updates_fit k v n s h ts b l.0 l.1) refl
