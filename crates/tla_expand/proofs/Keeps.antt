-- One prime more, and what has no variable.
use Rattle.std.proofs.Common.{◌≡◌, ℕ, refl, ◌∙◌, Option, Some, None}
use Rattle.tla_core.specs.declared.fault.Place.{Place}
use Rattle.tla_core.specs.Expr.{Expr, Exprs, Fields, Arms, Updates, constant, bound, now, next, unary, binary, equal, sub_seq, enumerated, tuple, record_of, conjunction, disjunction, implies, conditional, cases, assert, for_all, for_some, choose, image, function, except, member, not_member, subset, kind_set, booleans, sequences, power, functions, records, product, cup, cap, minus, filtered, opened, tried, no_exprs, more_exprs, no_fields, more_fields, no_arms, other, more_arms, no_updates, more_updates}
use Rattle.tla_scopes.specs.declared.primes.Primes.{Primes}
use Rattle.tla_scopes.specs.declared.primes.Primes.TheVariants.{Never, Once, Twice}
use Rattle.tla_scopes.specs.Maybe.{◌>>=◌}
use Rattle.tla_scopes.specs.Primes.{primes, primes_each, primes_fields, primes_arms, primes_updates, one_more, primed_now, primed_next}
use Rattle.tla_scopes.proofs.Primed.{one, two, three}

then_once_now : (k : Primes) (p : Place) (i : ℕ) → (primed_now k p i >>= primes Once) ≡ primed_now (one_more k) p i
then_once_now Never p i = refl
then_once_now Once p i = refl
then_once_now Twice p i = refl

then_once_next : (k : Primes) (p : Place) (i : ℕ) → (primed_next k p i >>= primes Once) ≡ primed_next (one_more k) p i
then_once_next Never p i = refl
then_once_next Once p i = refl
then_once_next Twice p i = refl

-- primes, and then one more
mutual
  pub then_once : (k : Primes) (e : Expr) → (primes k e >>= primes Once) ≡ primes (one_more k) e
  then_once k (constant p v) = refl
  then_once k (bound p i) = refl
  then_once k (now p i) = then_once_now k p i
  then_once k (next p i) = then_once_next k p i
  then_once k (unary p o a) = one (λ x. unary p o x) (primes Once) (primes Once) (λ x. refl) (primes k a) ∙ rw (then_once k a) refl
  then_once k (binary p o a b) = two (λ x y. binary p o x y) (primes Once) (primes Once) (primes Once) (λ x y. refl) (primes k a) (primes k b) ∙ rw (then_once k a, then_once k b) refl
  then_once k (equal p a b) = two (λ x y. equal p x y) (primes Once) (primes Once) (primes Once) (λ x y. refl) (primes k a) (primes k b) ∙ rw (then_once k a, then_once k b) refl
  then_once k (sub_seq p a b c) = three (λ x y z. sub_seq p x y z) (primes Once) (primes Once) (primes Once) (primes Once) (λ x y z. refl) (primes k a) (primes k b) (primes k c) ∙ rw (then_once k a, then_once k b, then_once k c) refl
  then_once k (enumerated p es) = one (λ x. enumerated p x) (primes_each Once) (primes Once) (λ x. refl) (primes_each k es) ∙ rw (then_once_each k es) refl
  then_once k (tuple p es) = one (λ x. tuple p x) (primes_each Once) (primes Once) (λ x. refl) (primes_each k es) ∙ rw (then_once_each k es) refl
  then_once k (record_of p fs) = one (λ x. record_of p x) (primes_fields Once) (primes Once) (λ x. refl) (primes_fields k fs) ∙ rw (then_once_fields k fs) refl
  then_once k (conjunction p es) = one (λ x. conjunction p x) (primes_each Once) (primes Once) (λ x. refl) (primes_each k es) ∙ rw (then_once_each k es) refl
  then_once k (disjunction p es) = one (λ x. disjunction p x) (primes_each Once) (primes Once) (λ x. refl) (primes_each k es) ∙ rw (then_once_each k es) refl
  then_once k (implies p a b) = two (λ x y. implies p x y) (primes Once) (primes Once) (primes Once) (λ x y. refl) (primes k a) (primes k b) ∙ rw (then_once k a, then_once k b) refl
  then_once k (conditional p a b c) = three (λ x y z. conditional p x y z) (primes Once) (primes Once) (primes Once) (primes Once) (λ x y z. refl) (primes k a) (primes k b) (primes k c) ∙ rw (then_once k a, then_once k b, then_once k c) refl
  then_once k (cases p arms) = one (λ x. cases p x) (primes_arms Once) (primes Once) (λ x. refl) (primes_arms k arms) ∙ rw (then_once_arms k arms) refl
  then_once k (assert p a b) = two (λ x y. assert p x y) (primes Once) (primes Once) (primes Once) (λ x y. refl) (primes k a) (primes k b) ∙ rw (then_once k a, then_once k b) refl
  then_once k (for_all p a b) = two (λ x y. for_all p x y) (primes Once) (primes Once) (primes Once) (λ x y. refl) (primes k a) (primes k b) ∙ rw (then_once k a, then_once k b) refl
  then_once k (for_some p a b) = two (λ x y. for_some p x y) (primes Once) (primes Once) (primes Once) (λ x y. refl) (primes k a) (primes k b) ∙ rw (then_once k a, then_once k b) refl
  then_once k (choose p a b) = two (λ x y. choose p x y) (primes Once) (primes Once) (primes Once) (λ x y. refl) (primes k a) (primes k b) ∙ rw (then_once k a, then_once k b) refl
  then_once k (image p es a) = two (λ x y. image p x y) (primes_each Once) (primes Once) (primes Once) (λ x y. refl) (primes_each k es) (primes k a) ∙ rw (then_once_each k es, then_once k a) refl
  then_once k (function p es a) = two (λ x y. function p x y) (primes_each Once) (primes Once) (primes Once) (λ x y. refl) (primes_each k es) (primes k a) ∙ rw (then_once_each k es, then_once k a) refl
  then_once k (except p a us) = two (λ x y. except p x y) (primes Once) (primes_updates Once) (primes Once) (λ x y. refl) (primes k a) (primes_updates k us) ∙ rw (then_once k a, then_once_updates k us) refl
  then_once k (member p a b) = two (λ x y. member p x y) (primes Once) (primes Once) (primes Once) (λ x y. refl) (primes k a) (primes k b) ∙ rw (then_once k a, then_once k b) refl
  then_once k (not_member p a b) = two (λ x y. not_member p x y) (primes Once) (primes Once) (primes Once) (λ x y. refl) (primes k a) (primes k b) ∙ rw (then_once k a, then_once k b) refl
  then_once k (subset p a b) = two (λ x y. subset p x y) (primes Once) (primes Once) (primes Once) (λ x y. refl) (primes k a) (primes k b) ∙ rw (then_once k a, then_once k b) refl
  then_once k (kind_set p o) = refl
  then_once k (booleans p) = refl
  then_once k (sequences p a) = one (λ x. sequences p x) (primes Once) (primes Once) (λ x. refl) (primes k a) ∙ rw (then_once k a) refl
  then_once k (power p a) = one (λ x. power p x) (primes Once) (primes Once) (λ x. refl) (primes k a) ∙ rw (then_once k a) refl
  then_once k (functions p a b) = two (λ x y. functions p x y) (primes Once) (primes Once) (primes Once) (λ x y. refl) (primes k a) (primes k b) ∙ rw (then_once k a, then_once k b) refl
  then_once k (records p fs) = one (λ x. records p x) (primes_fields Once) (primes Once) (λ x. refl) (primes_fields k fs) ∙ rw (then_once_fields k fs) refl
  then_once k (product p es) = one (λ x. product p x) (primes_each Once) (primes Once) (λ x. refl) (primes_each k es) ∙ rw (then_once_each k es) refl
  then_once k (cup p a b) = two (λ x y. cup p x y) (primes Once) (primes Once) (primes Once) (λ x y. refl) (primes k a) (primes k b) ∙ rw (then_once k a, then_once k b) refl
  then_once k (cap p a b) = two (λ x y. cap p x y) (primes Once) (primes Once) (primes Once) (λ x y. refl) (primes k a) (primes k b) ∙ rw (then_once k a, then_once k b) refl
  then_once k (minus p a b) = two (λ x y. minus p x y) (primes Once) (primes Once) (primes Once) (λ x y. refl) (primes k a) (primes k b) ∙ rw (then_once k a, then_once k b) refl
  then_once k (filtered p a b) = two (λ x y. filtered p x y) (primes Once) (primes Once) (primes Once) (λ x y. refl) (primes k a) (primes k b) ∙ rw (then_once k a, then_once k b) refl
  then_once k (opened p os a) = one (λ x. opened p os x) (primes Once) (primes Once) (λ x. refl) (primes k a) ∙ rw (then_once k a) refl
  then_once k (tried p n a) = one (λ x. tried p n x) (primes Once) (primes Once) (λ x. refl) (primes k a) ∙ rw (then_once k a) refl

  pub then_once_each : (k : Primes) (es : Exprs) → (primes_each k es >>= primes_each Once) ≡ primes_each (one_more k) es
  then_once_each k no_exprs = refl
  then_once_each k (more_exprs e es) = two (λ x y. more_exprs x y) (primes Once) (primes_each Once) (primes_each Once) (λ x y. refl) (primes k e) (primes_each k es) ∙ rw (then_once k e, then_once_each k es) refl

  pub then_once_fields : (k : Primes) (fs : Fields) → (primes_fields k fs >>= primes_fields Once) ≡ primes_fields (one_more k) fs
  then_once_fields k no_fields = refl
  then_once_fields k (more_fields n e fs) = two (λ x y. more_fields n x y) (primes Once) (primes_fields Once) (primes_fields Once) (λ x y. refl) (primes k e) (primes_fields k fs) ∙ rw (then_once k e, then_once_fields k fs) refl

  pub then_once_arms : (k : Primes) (arms : Arms) → (primes_arms k arms >>= primes_arms Once) ≡ primes_arms (one_more k) arms
  then_once_arms k no_arms = refl
  then_once_arms k (other e) = one (λ x. other x) (primes Once) (primes_arms Once) (λ x. refl) (primes k e) ∙ rw (then_once k e) refl
  then_once_arms k (more_arms a b arms) = three (λ x y z. more_arms x y z) (primes Once) (primes Once) (primes_arms Once) (primes_arms Once) (λ x y z. refl) (primes k a) (primes k b) (primes_arms k arms) ∙ rw (then_once k a, then_once k b, then_once_arms k arms) refl

  pub then_once_updates : (k : Primes) (us : Updates) → (primes_updates k us >>= primes_updates Once) ≡ primes_updates (one_more k) us
  then_once_updates k no_updates = refl
  then_once_updates k (more_updates path e us) = three (λ x y z. more_updates x y z) (primes_each Once) (primes Once) (primes_updates Once) (primes_updates Once) (λ x y z. refl) (primes_each k path) (primes k e) (primes_updates k us) ∙ rw (then_once_each k path, then_once k e, then_once_updates k us) refl

-- what is there goes on to something that is there
pub inv : {A B : Type 0} (o : Option A) (k : A → Option B) (y : B) → (o >>= k) ≡ Some y → (x : A) × (o ≡ Some x) × (k x ≡ Some y)
inv None k y h = cc
inv (Some x) k y h = (x, refl, h)

-- what has no variable stays under primes
mutual
  pub stays : (e y : Expr) → primes Twice e ≡ Some y → (j : Primes) → primes j e ≡ Some e
  stays (now p i) y h j = cc
  stays (next p i) y h j = cc
  stays (constant p v) y h j = refl
  stays (bound p i) y h j = refl
  stays (kind_set p o) y h j = refl
  stays (booleans p) y h j = refl
  stays (unary p o a) y h j =
      let u = inv (primes Twice a) (λ x. Some (unary p o x)) y h in
      rw (stays a u.0 u.1 j) refl
  stays (binary p o a b) y h j =
      let u = inv (primes Twice a) (λ x. primes Twice b >>= λ z. Some (binary p o x z)) y h in
      let v = inv (primes Twice b) (λ z. Some (binary p o u.0 z)) y u.2 in
      rw (stays a u.0 u.1 j, stays b v.0 v.1 j) refl
  stays (equal p a b) y h j =
      let u = inv (primes Twice a) (λ x. primes Twice b >>= λ z. Some (equal p x z)) y h in
      let v = inv (primes Twice b) (λ z. Some (equal p u.0 z)) y u.2 in
      rw (stays a u.0 u.1 j, stays b v.0 v.1 j) refl
  stays (sub_seq p a b c) y h j =
      let u = inv (primes Twice a) (λ x. primes Twice b >>= λ z. primes Twice c >>= λ w. Some (sub_seq p x z w)) y h in
      let v = inv (primes Twice b) (λ z. primes Twice c >>= λ w. Some (sub_seq p u.0 z w)) y u.2 in
      let r = inv (primes Twice c) (λ w. Some (sub_seq p u.0 v.0 w)) y v.2 in
      rw (stays a u.0 u.1 j, stays b v.0 v.1 j, stays c r.0 r.1 j) refl
  stays (enumerated p es) y h j =
      let u = inv (primes_each Twice es) (λ x. Some (enumerated p x)) y h in
      rw (stays_each es u.0 u.1 j) refl
  stays (tuple p es) y h j =
      let u = inv (primes_each Twice es) (λ x. Some (tuple p x)) y h in
      rw (stays_each es u.0 u.1 j) refl
  stays (record_of p fs) y h j =
      let u = inv (primes_fields Twice fs) (λ x. Some (record_of p x)) y h in
      rw (stays_fields fs u.0 u.1 j) refl
  stays (conjunction p es) y h j =
      let u = inv (primes_each Twice es) (λ x. Some (conjunction p x)) y h in
      rw (stays_each es u.0 u.1 j) refl
  stays (disjunction p es) y h j =
      let u = inv (primes_each Twice es) (λ x. Some (disjunction p x)) y h in
      rw (stays_each es u.0 u.1 j) refl
  stays (implies p a b) y h j =
      let u = inv (primes Twice a) (λ x. primes Twice b >>= λ z. Some (implies p x z)) y h in
      let v = inv (primes Twice b) (λ z. Some (implies p u.0 z)) y u.2 in
      rw (stays a u.0 u.1 j, stays b v.0 v.1 j) refl
  stays (conditional p a b c) y h j =
      let u = inv (primes Twice a) (λ x. primes Twice b >>= λ z. primes Twice c >>= λ w. Some (conditional p x z w)) y h in
      let v = inv (primes Twice b) (λ z. primes Twice c >>= λ w. Some (conditional p u.0 z w)) y u.2 in
      let r = inv (primes Twice c) (λ w. Some (conditional p u.0 v.0 w)) y v.2 in
      rw (stays a u.0 u.1 j, stays b v.0 v.1 j, stays c r.0 r.1 j) refl
  stays (cases p arms) y h j =
      let u = inv (primes_arms Twice arms) (λ x. Some (cases p x)) y h in
      rw (stays_arms arms u.0 u.1 j) refl
  stays (assert p a b) y h j =
      let u = inv (primes Twice a) (λ x. primes Twice b >>= λ z. Some (assert p x z)) y h in
      let v = inv (primes Twice b) (λ z. Some (assert p u.0 z)) y u.2 in
      rw (stays a u.0 u.1 j, stays b v.0 v.1 j) refl
  stays (for_all p a b) y h j =
      let u = inv (primes Twice a) (λ x. primes Twice b >>= λ z. Some (for_all p x z)) y h in
      let v = inv (primes Twice b) (λ z. Some (for_all p u.0 z)) y u.2 in
      rw (stays a u.0 u.1 j, stays b v.0 v.1 j) refl
  stays (for_some p a b) y h j =
      let u = inv (primes Twice a) (λ x. primes Twice b >>= λ z. Some (for_some p x z)) y h in
      let v = inv (primes Twice b) (λ z. Some (for_some p u.0 z)) y u.2 in
      rw (stays a u.0 u.1 j, stays b v.0 v.1 j) refl
  stays (choose p a b) y h j =
      let u = inv (primes Twice a) (λ x. primes Twice b >>= λ z. Some (choose p x z)) y h in
      let v = inv (primes Twice b) (λ z. Some (choose p u.0 z)) y u.2 in
      rw (stays a u.0 u.1 j, stays b v.0 v.1 j) refl
  stays (image p es a) y h j =
      let u = inv (primes_each Twice es) (λ x. primes Twice a >>= λ z. Some (image p x z)) y h in
      let v = inv (primes Twice a) (λ z. Some (image p u.0 z)) y u.2 in
      rw (stays_each es u.0 u.1 j, stays a v.0 v.1 j) refl
  stays (function p es a) y h j =
      let u = inv (primes_each Twice es) (λ x. primes Twice a >>= λ z. Some (function p x z)) y h in
      let v = inv (primes Twice a) (λ z. Some (function p u.0 z)) y u.2 in
      rw (stays_each es u.0 u.1 j, stays a v.0 v.1 j) refl
  stays (except p a us) y h j =
      let u = inv (primes Twice a) (λ x. primes_updates Twice us >>= λ z. Some (except p x z)) y h in
      let v = inv (primes_updates Twice us) (λ z. Some (except p u.0 z)) y u.2 in
      rw (stays a u.0 u.1 j, stays_updates us v.0 v.1 j) refl
  stays (member p a b) y h j =
      let u = inv (primes Twice a) (λ x. primes Twice b >>= λ z. Some (member p x z)) y h in
      let v = inv (primes Twice b) (λ z. Some (member p u.0 z)) y u.2 in
      rw (stays a u.0 u.1 j, stays b v.0 v.1 j) refl
  stays (not_member p a b) y h j =
      let u = inv (primes Twice a) (λ x. primes Twice b >>= λ z. Some (not_member p x z)) y h in
      let v = inv (primes Twice b) (λ z. Some (not_member p u.0 z)) y u.2 in
      rw (stays a u.0 u.1 j, stays b v.0 v.1 j) refl
  stays (subset p a b) y h j =
      let u = inv (primes Twice a) (λ x. primes Twice b >>= λ z. Some (subset p x z)) y h in
      let v = inv (primes Twice b) (λ z. Some (subset p u.0 z)) y u.2 in
      rw (stays a u.0 u.1 j, stays b v.0 v.1 j) refl
  stays (sequences p a) y h j =
      let u = inv (primes Twice a) (λ x. Some (sequences p x)) y h in
      rw (stays a u.0 u.1 j) refl
  stays (power p a) y h j =
      let u = inv (primes Twice a) (λ x. Some (power p x)) y h in
      rw (stays a u.0 u.1 j) refl
  stays (functions p a b) y h j =
      let u = inv (primes Twice a) (λ x. primes Twice b >>= λ z. Some (functions p x z)) y h in
      let v = inv (primes Twice b) (λ z. Some (functions p u.0 z)) y u.2 in
      rw (stays a u.0 u.1 j, stays b v.0 v.1 j) refl
  stays (records p fs) y h j =
      let u = inv (primes_fields Twice fs) (λ x. Some (records p x)) y h in
      rw (stays_fields fs u.0 u.1 j) refl
  stays (product p es) y h j =
      let u = inv (primes_each Twice es) (λ x. Some (product p x)) y h in
      rw (stays_each es u.0 u.1 j) refl
  stays (cup p a b) y h j =
      let u = inv (primes Twice a) (λ x. primes Twice b >>= λ z. Some (cup p x z)) y h in
      let v = inv (primes Twice b) (λ z. Some (cup p u.0 z)) y u.2 in
      rw (stays a u.0 u.1 j, stays b v.0 v.1 j) refl
  stays (cap p a b) y h j =
      let u = inv (primes Twice a) (λ x. primes Twice b >>= λ z. Some (cap p x z)) y h in
      let v = inv (primes Twice b) (λ z. Some (cap p u.0 z)) y u.2 in
      rw (stays a u.0 u.1 j, stays b v.0 v.1 j) refl
  stays (minus p a b) y h j =
      let u = inv (primes Twice a) (λ x. primes Twice b >>= λ z. Some (minus p x z)) y h in
      let v = inv (primes Twice b) (λ z. Some (minus p u.0 z)) y u.2 in
      rw (stays a u.0 u.1 j, stays b v.0 v.1 j) refl
  stays (filtered p a b) y h j =
      let u = inv (primes Twice a) (λ x. primes Twice b >>= λ z. Some (filtered p x z)) y h in
      let v = inv (primes Twice b) (λ z. Some (filtered p u.0 z)) y u.2 in
      rw (stays a u.0 u.1 j, stays b v.0 v.1 j) refl
  stays (opened p os a) y h j =
      let u = inv (primes Twice a) (λ x. Some (opened p os x)) y h in
      rw (stays a u.0 u.1 j) refl
  stays (tried p n a) y h j =
      let u = inv (primes Twice a) (λ x. Some (tried p n x)) y h in
      rw (stays a u.0 u.1 j) refl

  pub stays_each : (e y : Exprs) → primes_each Twice e ≡ Some y → (j : Primes) → primes_each j e ≡ Some e
  stays_each no_exprs y h j = refl
  stays_each (more_exprs e es) y h j =
      let u = inv (primes Twice e) (λ x. primes_each Twice es >>= λ z. Some (more_exprs x z)) y h in
      let v = inv (primes_each Twice es) (λ z. Some (more_exprs u.0 z)) y u.2 in
      rw (stays e u.0 u.1 j, stays_each es v.0 v.1 j) refl

  pub stays_fields : (e y : Fields) → primes_fields Twice e ≡ Some y → (j : Primes) → primes_fields j e ≡ Some e
  stays_fields no_fields y h j = refl
  stays_fields (more_fields n e fs) y h j =
      let u = inv (primes Twice e) (λ x. primes_fields Twice fs >>= λ z. Some (more_fields n x z)) y h in
      let v = inv (primes_fields Twice fs) (λ z. Some (more_fields n u.0 z)) y u.2 in
      rw (stays e u.0 u.1 j, stays_fields fs v.0 v.1 j) refl

  pub stays_arms : (e y : Arms) → primes_arms Twice e ≡ Some y → (j : Primes) → primes_arms j e ≡ Some e
  stays_arms no_arms y h j = refl
  stays_arms (other e) y h j =
      let u = inv (primes Twice e) (λ x. Some (other x)) y h in
      rw (stays e u.0 u.1 j) refl
  stays_arms (more_arms a b arms) y h j =
      let u = inv (primes Twice a) (λ x. primes Twice b >>= λ z. primes_arms Twice arms >>= λ w. Some (more_arms x z w)) y h in
      let v = inv (primes Twice b) (λ z. primes_arms Twice arms >>= λ w. Some (more_arms u.0 z w)) y u.2 in
      let r = inv (primes_arms Twice arms) (λ w. Some (more_arms u.0 v.0 w)) y v.2 in
      rw (stays a u.0 u.1 j, stays b v.0 v.1 j, stays_arms arms r.0 r.1 j) refl

  pub stays_updates : (e y : Updates) → primes_updates Twice e ≡ Some y → (j : Primes) → primes_updates j e ≡ Some e
  stays_updates no_updates y h j = refl
  stays_updates (more_updates path e us) y h j =
      let u = inv (primes_each Twice path) (λ x. primes Twice e >>= λ z. primes_updates Twice us >>= λ w. Some (more_updates x z w)) y h in
      let v = inv (primes Twice e) (λ z. primes_updates Twice us >>= λ w. Some (more_updates u.0 z w)) y u.2 in
      let r = inv (primes_updates Twice us) (λ w. Some (more_updates u.0 v.0 w)) y v.2 in
      rw (stays_each path u.0 u.1 j, stays e v.0 v.1 j, stays_updates us r.0 r.1 j) refl
