-- Primes, form by form.
use Rattle.std.proofs.Common.{◌≡◌, ℕ, refl, ◌∙◌, Option, Some, None}
use Rattle.tla_core.specs.declared.fault.Place.{Place}
use Rattle.tla_core.specs.Expr.{Expr, Exprs, Fields, Arms, Updates, constant, bound, now, next, unary, binary, equal, sub_seq, enumerated, tuple, record_of, conjunction, disjunction, implies, conditional, cases, assert, for_all, for_some, choose, image, function, except, member, not_member, subset, kind_set, booleans, sequences, power, functions, records, product, cup, cap, minus, filtered, opened, tried, no_exprs, more_exprs, no_fields, more_fields, no_arms, other, more_arms, no_updates, more_updates}
use Rattle.tla_scopes.specs.declared.primes.Primes.{Primes}
use Rattle.tla_scopes.specs.declared.primes.Primes.TheVariants.{Never, Once, Twice}
use Rattle.tla_scopes.specs.Maybe.{◌>>=◌}
use Rattle.tla_scopes.specs.Primes.{primes, primes_each, primes_fields, primes_arms, primes_updates, one_more, primed_now, primed_next}

abbrev pub fails : {C : Type 0} → Option C
fails = None

pub one : {A C : Type 0} (f : A → C) (ga : A → Option A) (gc : C → Option C) → ((x : A) → gc (f x) ≡ (ga x >>= λ x2. Some (f x2)))
    → (a : Option A) → ((a >>= λ x. Some (f x)) >>= gc) ≡ ((a >>= ga) >>= λ x. Some (f x))
one f ga gc h None = refl
one f ga gc h (Some x) = h x

pub two_of : {A C : Type 0} (a : Option A) → fails {C = C} ≡ (a >>= λ (x : A). fails {C = C})
two_of None = refl
two_of (Some x) = refl

pub two : {A B C : Type 0} (f : A → B → C) (ga : A → Option A) (gb : B → Option B) (gc : C → Option C)
    → ((x : A) (y : B) → gc (f x y) ≡ (ga x >>= λ x2. gb y >>= λ y2. Some (f x2 y2)))
    → (a : Option A) (b : Option B) → ((a >>= λ x. b >>= λ y. Some (f x y)) >>= gc) ≡ ((a >>= ga) >>= λ x. (b >>= gb) >>= λ y. Some (f x y))
two {C = C} f ga gb gc h None b = refl
two {C = C} f ga gb gc h (Some x) None = two_of {C = C} (ga x)
two {C = C} f ga gb gc h (Some x) (Some y) = h x y

three_of : {A B C : Type 0} (a : Option A) (k : A → Option B) → fails {C = C} ≡ (a >>= λ (x : A). k x >>= λ (y : B). fails {C = C})
three_of None k = refl
three_of {C = C} (Some x) k = two_of {C = C} (k x)

pub three : {A B E C : Type 0} (f : A → B → E → C) (ga : A → Option A) (gb : B → Option B) (ge : E → Option E) (gc : C → Option C)
    → ((x : A) (y : B) (z : E) → gc (f x y z) ≡ (ga x >>= λ x2. gb y >>= λ y2. ge z >>= λ z2. Some (f x2 y2 z2)))
    → (a : Option A) (b : Option B) (e : Option E)
    → ((a >>= λ x. b >>= λ y. e >>= λ z. Some (f x y z)) >>= gc) ≡ ((a >>= ga) >>= λ x. (b >>= gb) >>= λ y. (e >>= ge) >>= λ z. Some (f x y z))
three f ga gb ge gc h None b e = refl
three {C = C} f ga gb ge gc h (Some x) None e = two_of {C = C} (ga x)
three {C = C} f ga gb ge gc h (Some x) (Some y) None = three_of {C = C} (ga x) (λ x2. gb y)
three f ga gb ge gc h (Some x) (Some y) (Some z) = h x y z

once_now : (k : Primes) (p : Place) (i : ℕ) → (primed_now Once p i >>= primes k) ≡ primed_now (one_more k) p i
once_now Never p i = refl
once_now Once p i = refl
once_now Twice p i = refl

once_next : (k : Primes) (p : Place) (i : ℕ) → (primed_next Once p i >>= primes k) ≡ primed_next (one_more k) p i
once_next Never p i = refl
once_next Once p i = refl
once_next Twice p i = refl

-- one prime, and then more
mutual
  pub once : (k : Primes) (e : Expr) → (primes Once e >>= primes k) ≡ primes (one_more k) e
  once k (constant p v) = refl
  once k (bound p i) = refl
  once k (now p i) = once_now k p i
  once k (next p i) = once_next k p i
  once k (unary p o a) = one (λ x. unary p o x) (primes k) (primes k) (λ x. refl) (primes Once a) ∙ rw (once k a) refl
  once k (binary p o a b) = two (λ x y. binary p o x y) (primes k) (primes k) (primes k) (λ x y. refl) (primes Once a) (primes Once b) ∙ rw (once k a, once k b) refl
  once k (equal p a b) = two (λ x y. equal p x y) (primes k) (primes k) (primes k) (λ x y. refl) (primes Once a) (primes Once b) ∙ rw (once k a, once k b) refl
  once k (sub_seq p a b c) = three (λ x y z. sub_seq p x y z) (primes k) (primes k) (primes k) (primes k) (λ x y z. refl) (primes Once a) (primes Once b) (primes Once c) ∙ rw (once k a, once k b, once k c) refl
  once k (enumerated p es) = one (λ x. enumerated p x) (primes_each k) (primes k) (λ x. refl) (primes_each Once es) ∙ rw (once_each k es) refl
  once k (tuple p es) = one (λ x. tuple p x) (primes_each k) (primes k) (λ x. refl) (primes_each Once es) ∙ rw (once_each k es) refl
  once k (record_of p fs) = one (λ x. record_of p x) (primes_fields k) (primes k) (λ x. refl) (primes_fields Once fs) ∙ rw (once_fields k fs) refl
  once k (conjunction p es) = one (λ x. conjunction p x) (primes_each k) (primes k) (λ x. refl) (primes_each Once es) ∙ rw (once_each k es) refl
  once k (disjunction p es) = one (λ x. disjunction p x) (primes_each k) (primes k) (λ x. refl) (primes_each Once es) ∙ rw (once_each k es) refl
  once k (implies p a b) = two (λ x y. implies p x y) (primes k) (primes k) (primes k) (λ x y. refl) (primes Once a) (primes Once b) ∙ rw (once k a, once k b) refl
  once k (conditional p a b c) = three (λ x y z. conditional p x y z) (primes k) (primes k) (primes k) (primes k) (λ x y z. refl) (primes Once a) (primes Once b) (primes Once c) ∙ rw (once k a, once k b, once k c) refl
  once k (cases p arms) = one (λ x. cases p x) (primes_arms k) (primes k) (λ x. refl) (primes_arms Once arms) ∙ rw (once_arms k arms) refl
  once k (assert p a b) = two (λ x y. assert p x y) (primes k) (primes k) (primes k) (λ x y. refl) (primes Once a) (primes Once b) ∙ rw (once k a, once k b) refl
  once k (for_all p a b) = two (λ x y. for_all p x y) (primes k) (primes k) (primes k) (λ x y. refl) (primes Once a) (primes Once b) ∙ rw (once k a, once k b) refl
  once k (for_some p a b) = two (λ x y. for_some p x y) (primes k) (primes k) (primes k) (λ x y. refl) (primes Once a) (primes Once b) ∙ rw (once k a, once k b) refl
  once k (choose p a b) = two (λ x y. choose p x y) (primes k) (primes k) (primes k) (λ x y. refl) (primes Once a) (primes Once b) ∙ rw (once k a, once k b) refl
  once k (image p es a) = two (λ x y. image p x y) (primes_each k) (primes k) (primes k) (λ x y. refl) (primes_each Once es) (primes Once a) ∙ rw (once_each k es, once k a) refl
  once k (function p es a) = two (λ x y. function p x y) (primes_each k) (primes k) (primes k) (λ x y. refl) (primes_each Once es) (primes Once a) ∙ rw (once_each k es, once k a) refl
  once k (except p a us) = two (λ x y. except p x y) (primes k) (primes_updates k) (primes k) (λ x y. refl) (primes Once a) (primes_updates Once us) ∙ rw (once k a, once_updates k us) refl
  once k (member p a b) = two (λ x y. member p x y) (primes k) (primes k) (primes k) (λ x y. refl) (primes Once a) (primes Once b) ∙ rw (once k a, once k b) refl
  once k (not_member p a b) = two (λ x y. not_member p x y) (primes k) (primes k) (primes k) (λ x y. refl) (primes Once a) (primes Once b) ∙ rw (once k a, once k b) refl
  once k (subset p a b) = two (λ x y. subset p x y) (primes k) (primes k) (primes k) (λ x y. refl) (primes Once a) (primes Once b) ∙ rw (once k a, once k b) refl
  once k (kind_set p o) = refl
  once k (booleans p) = refl
  once k (sequences p a) = one (λ x. sequences p x) (primes k) (primes k) (λ x. refl) (primes Once a) ∙ rw (once k a) refl
  once k (power p a) = one (λ x. power p x) (primes k) (primes k) (λ x. refl) (primes Once a) ∙ rw (once k a) refl
  once k (functions p a b) = two (λ x y. functions p x y) (primes k) (primes k) (primes k) (λ x y. refl) (primes Once a) (primes Once b) ∙ rw (once k a, once k b) refl
  once k (records p fs) = one (λ x. records p x) (primes_fields k) (primes k) (λ x. refl) (primes_fields Once fs) ∙ rw (once_fields k fs) refl
  once k (product p es) = one (λ x. product p x) (primes_each k) (primes k) (λ x. refl) (primes_each Once es) ∙ rw (once_each k es) refl
  once k (cup p a b) = two (λ x y. cup p x y) (primes k) (primes k) (primes k) (λ x y. refl) (primes Once a) (primes Once b) ∙ rw (once k a, once k b) refl
  once k (cap p a b) = two (λ x y. cap p x y) (primes k) (primes k) (primes k) (λ x y. refl) (primes Once a) (primes Once b) ∙ rw (once k a, once k b) refl
  once k (minus p a b) = two (λ x y. minus p x y) (primes k) (primes k) (primes k) (λ x y. refl) (primes Once a) (primes Once b) ∙ rw (once k a, once k b) refl
  once k (filtered p a b) = two (λ x y. filtered p x y) (primes k) (primes k) (primes k) (λ x y. refl) (primes Once a) (primes Once b) ∙ rw (once k a, once k b) refl
  once k (opened p os a) = one (λ x. opened p os x) (primes k) (primes k) (λ x. refl) (primes Once a) ∙ rw (once k a) refl
  once k (tried p n a) = one (λ x. tried p n x) (primes k) (primes k) (λ x. refl) (primes Once a) ∙ rw (once k a) refl

  pub once_each : (k : Primes) (es : Exprs) → (primes_each Once es >>= primes_each k) ≡ primes_each (one_more k) es
  once_each k no_exprs = refl
  once_each k (more_exprs e es) = two (λ x y. more_exprs x y) (primes k) (primes_each k) (primes_each k) (λ x y. refl) (primes Once e) (primes_each Once es) ∙ rw (once k e, once_each k es) refl

  pub once_fields : (k : Primes) (fs : Fields) → (primes_fields Once fs >>= primes_fields k) ≡ primes_fields (one_more k) fs
  once_fields k no_fields = refl
  once_fields k (more_fields n e fs) = two (λ x y. more_fields n x y) (primes k) (primes_fields k) (primes_fields k) (λ x y. refl) (primes Once e) (primes_fields Once fs) ∙ rw (once k e, once_fields k fs) refl

  pub once_arms : (k : Primes) (arms : Arms) → (primes_arms Once arms >>= primes_arms k) ≡ primes_arms (one_more k) arms
  once_arms k no_arms = refl
  once_arms k (other e) = one (λ x. other x) (primes k) (primes_arms k) (λ x. refl) (primes Once e) ∙ rw (once k e) refl
  once_arms k (more_arms a b arms) = three (λ x y z. more_arms x y z) (primes k) (primes k) (primes_arms k) (primes_arms k) (λ x y z. refl) (primes Once a) (primes Once b) (primes_arms Once arms) ∙ rw (once k a, once k b, once_arms k arms) refl

  pub once_updates : (k : Primes) (us : Updates) → (primes_updates Once us >>= primes_updates k) ≡ primes_updates (one_more k) us
  once_updates k no_updates = refl
  once_updates k (more_updates path e us) = three (λ x y z. more_updates x y z) (primes_each k) (primes k) (primes_updates k) (primes_updates k) (λ x y z. refl) (primes_each Once path) (primes Once e) (primes_updates Once us) ∙ rw (once_each k path, once k e, once_updates k us) refl

-- no prime changes nothing
mutual
  pub unprimed : (e : Expr) → primes Never e ≡ Some e
  unprimed (constant p v) = refl
  unprimed (bound p i) = refl
  unprimed (now p i) = refl
  unprimed (next p i) = refl
  unprimed (unary p o a) = rw (unprimed a) refl
  unprimed (binary p o a b) = rw (unprimed a, unprimed b) refl
  unprimed (equal p a b) = rw (unprimed a, unprimed b) refl
  unprimed (sub_seq p a b c) = rw (unprimed a, unprimed b, unprimed c) refl
  unprimed (enumerated p es) = rw (unprimed_each es) refl
  unprimed (tuple p es) = rw (unprimed_each es) refl
  unprimed (record_of p fs) = rw (unprimed_fields fs) refl
  unprimed (conjunction p es) = rw (unprimed_each es) refl
  unprimed (disjunction p es) = rw (unprimed_each es) refl
  unprimed (implies p a b) = rw (unprimed a, unprimed b) refl
  unprimed (conditional p a b c) = rw (unprimed a, unprimed b, unprimed c) refl
  unprimed (cases p arms) = rw (unprimed_arms arms) refl
  unprimed (assert p a b) = rw (unprimed a, unprimed b) refl
  unprimed (for_all p a b) = rw (unprimed a, unprimed b) refl
  unprimed (for_some p a b) = rw (unprimed a, unprimed b) refl
  unprimed (choose p a b) = rw (unprimed a, unprimed b) refl
  unprimed (image p es a) = rw (unprimed_each es, unprimed a) refl
  unprimed (function p es a) = rw (unprimed_each es, unprimed a) refl
  unprimed (except p a us) = rw (unprimed a, unprimed_updates us) refl
  unprimed (member p a b) = rw (unprimed a, unprimed b) refl
  unprimed (not_member p a b) = rw (unprimed a, unprimed b) refl
  unprimed (subset p a b) = rw (unprimed a, unprimed b) refl
  unprimed (kind_set p o) = refl
  unprimed (booleans p) = refl
  unprimed (sequences p a) = rw (unprimed a) refl
  unprimed (power p a) = rw (unprimed a) refl
  unprimed (functions p a b) = rw (unprimed a, unprimed b) refl
  unprimed (records p fs) = rw (unprimed_fields fs) refl
  unprimed (product p es) = rw (unprimed_each es) refl
  unprimed (cup p a b) = rw (unprimed a, unprimed b) refl
  unprimed (cap p a b) = rw (unprimed a, unprimed b) refl
  unprimed (minus p a b) = rw (unprimed a, unprimed b) refl
  unprimed (filtered p a b) = rw (unprimed a, unprimed b) refl
  unprimed (opened p os a) = rw (unprimed a) refl
  unprimed (tried p n a) = rw (unprimed a) refl

  pub unprimed_each : (es : Exprs) → primes_each Never es ≡ Some es
  unprimed_each no_exprs = refl
  unprimed_each (more_exprs e es) = rw (unprimed e, unprimed_each es) refl

  pub unprimed_fields : (fs : Fields) → primes_fields Never fs ≡ Some fs
  unprimed_fields no_fields = refl
  unprimed_fields (more_fields n e fs) = rw (unprimed e, unprimed_fields fs) refl

  pub unprimed_arms : (arms : Arms) → primes_arms Never arms ≡ Some arms
  unprimed_arms no_arms = refl
  unprimed_arms (other e) = rw (unprimed e) refl
  unprimed_arms (more_arms a b arms) = rw (unprimed a, unprimed b, unprimed_arms arms) refl

  pub unprimed_updates : (us : Updates) → primes_updates Never us ≡ Some us
  unprimed_updates no_updates = refl
  unprimed_updates (more_updates path e us) = rw (unprimed_each path, unprimed e, unprimed_updates us) refl
