-- UNCHANGED of what is no tuple, and UNCHANGED under primes.
use Rattle.std.proofs.Common.{◌≡◌, false, refl, ap, sym, ◌∙◌, Option, Some, None}
use Rattle.tla_core.specs.declared.fault.Place.{Place}
use Rattle.tla_core.specs.Expr.{Unequal, Expr, Exprs, constant, bound, now, next, unary, binary, equal, sub_seq, enumerated, tuple, record_of, conjunction, disjunction, implies, conditional, cases, assert, for_all, for_some, choose, image, function, except, member, not_member, subset, kind_set, booleans, sequences, power, functions, records, product, cup, cap, minus, filtered, opened, tried, no_exprs, more_exprs}
use Rattle.tla_scopes.specs.declared.primes.Primes.{Primes}
use Rattle.tla_scopes.specs.declared.primes.Primes.TheVariants.{Never, Once, Twice}
use Rattle.tla_scopes.specs.Maybe.{◌>>=◌}
use Rattle.tla_scopes.specs.Primes.{primes, primes_each, one_more}
use Rattle.tla_scopes.specs.Primes.{settled_primes}
use Rattle.tla_scopes.specs.Nodes.{kept}
use Rattle.tla_scopes.specs.Unchanged.{unchanged, unchanged_each, changed}
use Rattle.tla_expand.specs.Private.Gives.{both, is_tuple, Plain}
use Rattle.tla_scopes.specs.Primes.{with_primes}
use Rattle.tla_scopes.proofs.Primed.{once, one, two, unprimed}
use Rattle.tla_expand.proofs.Keeps.{then_once, stays}

pub unchanged_plain : (p : Place) (e : Expr) → is_tuple e ≡ false → unchanged p e ≡ (primes Once e >>= λ x. Some (equal p x e))
unchanged_plain p (tuple q es) h = cc
unchanged_plain p (constant q v) h = refl
unchanged_plain p (bound q i) h = refl
unchanged_plain p (kind_set q o) h = refl
unchanged_plain p (booleans q) h = refl
unchanged_plain p (unary q o a) h = refl
unchanged_plain p (binary q o a b) h = refl
unchanged_plain p (equal q a b) h = refl
unchanged_plain p (sub_seq q a b c) h = refl
unchanged_plain p (enumerated q es) h = refl
unchanged_plain p (record_of q fs) h = refl
unchanged_plain p (conjunction q es) h = refl
unchanged_plain p (disjunction q es) h = refl
unchanged_plain p (implies q a b) h = refl
unchanged_plain p (conditional q a b c) h = refl
unchanged_plain p (cases q arms) h = refl
unchanged_plain p (assert q a b) h = refl
unchanged_plain p (for_all q a b) h = refl
unchanged_plain p (for_some q a b) h = refl
unchanged_plain p (choose q a b) h = refl
unchanged_plain p (image q es a) h = refl
unchanged_plain p (function q es a) h = refl
unchanged_plain p (except q a us) h = refl
unchanged_plain p (member q a b) h = refl
unchanged_plain p (not_member q a b) h = refl
unchanged_plain p (subset q a b) h = refl
unchanged_plain p (sequences q a) h = refl
unchanged_plain p (power q a) h = refl
unchanged_plain p (functions q a b) h = refl
unchanged_plain p (records q fs) h = refl
unchanged_plain p (product q es) h = refl
unchanged_plain p (cup q a b) h = refl
unchanged_plain p (cap q a b) h = refl
unchanged_plain p (minus q a b) h = refl
unchanged_plain p (filtered q a b) h = refl
unchanged_plain p (opened q os a) h = refl
unchanged_plain p (tried q n a) h = refl
unchanged_plain p (now q i) h = refl
unchanged_plain p (next q i) h = refl

pub shown_not : (o : Option Expr) → with_primes Never o ≡ o
shown_not None = refl
shown_not (Some e) = unprimed e

plain_parts : (k : Primes) (p : Place) (e : Option Expr) → Plain e → (e >>= unchanged p) ≡ (both (e >>= primes Once) e >>= λ (xy : Expr × Expr). Some (equal p xy.0 xy.1))
plain_parts k p None h = refl
plain_parts k p (Some e) h = unchanged_plain p e (h e refl) ∙ of_some (primes Once e)
  where
    of_some : (o : Option Expr) → (o >>= λ x. Some (equal p x e)) ≡ (both o (Some e) >>= λ (xy : Expr × Expr). Some (equal p xy.0 xy.1))
    of_some None = refl
    of_some (Some x) = refl

then_more : (k : Primes) (o : Option Expr) → (with_primes k o >>= primes Once) ≡ with_primes (one_more k) o
then_more k None = refl
then_more k (Some e) = then_once k e

-- UNCHANGED of what is no tuple is an equation
pub kept_equal : (k : Primes) (o : Option Expr) (p : Place) → Plain (with_primes k o)
    → (with_primes k o >>= unchanged p) ≡ (both (with_primes (one_more k) o) (with_primes k o) >>= λ (xy : Expr × Expr). Some (equal p xy.0 xy.1))
kept_equal k o p h = plain_parts k p (with_primes k o) h ∙ rw (then_more k o) refl

none_after : (k : Primes) (p : Place) (e : Expr) (o : Option Expr) → (o >>= primes k) ≡ None → ((o >>= λ x. Some (equal p x e)) >>= primes k) ≡ None
none_after k p e None h = refl
none_after k p e (Some x) h = rw h refl

plain_twice : (k : Primes) (p : Place) (e : Expr) (o : Option Expr) → one_more k ≡ Twice → is_tuple e ≡ false → primes Twice e ≡ o
    → (unchanged p e >>= primes k) ≡ (primes Twice e >>= unchanged p)
plain_twice k p e None t h q =
    let g : (primes Once e >>= primes k) ≡ None = once k e ∙ rw t q in
    rw (unchanged_plain p e h, q) (none_after k p e (primes Once e) g)
plain_twice k p e (Some y) t h q =
    let s = stays e y q in
    rw (s Twice, unchanged_plain p e h, s Once, s k) refl

kept_primes : (k : Primes) (p : Place) (xs : Exprs) → primes k (kept p xs) ≡ (primes_each k xs >>= λ ys. Some (kept p ys))
kept_primes k p no_exprs = refl
kept_primes k p (more_exprs x xs) = two_kept (primes k x) (primes_each k xs)
  where
    two_kept : (a : Option Expr) (b : Option Exprs)
        → ((a >>= λ x. b >>= λ ys. Some (more_exprs x ys)) >>= λ ys. Some (conjunction p ys)) ≡ ((a >>= λ x. b >>= λ ys. Some (more_exprs x ys)) >>= λ ys. Some (kept p ys))
    two_kept None b = refl
    two_kept (Some x) None = refl
    two_kept (Some x) (Some ys) = refl

tuple_kept : (p q : Place) (o : Option Exprs) → ((o >>= λ ys. Some (tuple q ys)) >>= unchanged p) ≡ ((o >>= unchanged_each p) >>= λ xs. Some (kept p xs))
tuple_kept p q None = refl
tuple_kept p q (Some ys) = refl

mutual
  unchanged_twice : (k : Primes) (p : Place) (e : Expr) → one_more k ≡ Twice → (unchanged p e >>= primes k) ≡ (primes Twice e >>= unchanged p)
  unchanged_twice k p (tuple q es) t =
      one (λ xs. kept p xs) (primes_each k) (primes k) (kept_primes k p) (unchanged_each p es)
      ∙ ap (λ (o : Option Exprs). o >>= λ xs. Some (kept p xs)) (unchanged_twice_each k p es t)
      ∙ sym (tuple_kept p q (primes_each Twice es))
  unchanged_twice k p (constant q v) t = plain_twice k p (constant q v) (primes Twice (constant q v)) t refl refl
  unchanged_twice k p (bound q i) t = plain_twice k p (bound q i) (primes Twice (bound q i)) t refl refl
  unchanged_twice k p (kind_set q o) t = plain_twice k p (kind_set q o) (primes Twice (kind_set q o)) t refl refl
  unchanged_twice k p (booleans q) t = plain_twice k p (booleans q) (primes Twice (booleans q)) t refl refl
  unchanged_twice k p (unary q o a) t = plain_twice k p (unary q o a) (primes Twice (unary q o a)) t refl refl
  unchanged_twice k p (binary q o a b) t = plain_twice k p (binary q o a b) (primes Twice (binary q o a b)) t refl refl
  unchanged_twice k p (equal q a b) t = plain_twice k p (equal q a b) (primes Twice (equal q a b)) t refl refl
  unchanged_twice k p (sub_seq q a b c) t = plain_twice k p (sub_seq q a b c) (primes Twice (sub_seq q a b c)) t refl refl
  unchanged_twice k p (enumerated q es) t = plain_twice k p (enumerated q es) (primes Twice (enumerated q es)) t refl refl
  unchanged_twice k p (record_of q fs) t = plain_twice k p (record_of q fs) (primes Twice (record_of q fs)) t refl refl
  unchanged_twice k p (conjunction q es) t = plain_twice k p (conjunction q es) (primes Twice (conjunction q es)) t refl refl
  unchanged_twice k p (disjunction q es) t = plain_twice k p (disjunction q es) (primes Twice (disjunction q es)) t refl refl
  unchanged_twice k p (implies q a b) t = plain_twice k p (implies q a b) (primes Twice (implies q a b)) t refl refl
  unchanged_twice k p (conditional q a b c) t = plain_twice k p (conditional q a b c) (primes Twice (conditional q a b c)) t refl refl
  unchanged_twice k p (cases q arms) t = plain_twice k p (cases q arms) (primes Twice (cases q arms)) t refl refl
  unchanged_twice k p (assert q a b) t = plain_twice k p (assert q a b) (primes Twice (assert q a b)) t refl refl
  unchanged_twice k p (for_all q a b) t = plain_twice k p (for_all q a b) (primes Twice (for_all q a b)) t refl refl
  unchanged_twice k p (for_some q a b) t = plain_twice k p (for_some q a b) (primes Twice (for_some q a b)) t refl refl
  unchanged_twice k p (choose q a b) t = plain_twice k p (choose q a b) (primes Twice (choose q a b)) t refl refl
  unchanged_twice k p (image q es a) t = plain_twice k p (image q es a) (primes Twice (image q es a)) t refl refl
  unchanged_twice k p (function q es a) t = plain_twice k p (function q es a) (primes Twice (function q es a)) t refl refl
  unchanged_twice k p (except q a us) t = plain_twice k p (except q a us) (primes Twice (except q a us)) t refl refl
  unchanged_twice k p (member q a b) t = plain_twice k p (member q a b) (primes Twice (member q a b)) t refl refl
  unchanged_twice k p (not_member q a b) t = plain_twice k p (not_member q a b) (primes Twice (not_member q a b)) t refl refl
  unchanged_twice k p (subset q a b) t = plain_twice k p (subset q a b) (primes Twice (subset q a b)) t refl refl
  unchanged_twice k p (sequences q a) t = plain_twice k p (sequences q a) (primes Twice (sequences q a)) t refl refl
  unchanged_twice k p (power q a) t = plain_twice k p (power q a) (primes Twice (power q a)) t refl refl
  unchanged_twice k p (functions q a b) t = plain_twice k p (functions q a b) (primes Twice (functions q a b)) t refl refl
  unchanged_twice k p (records q fs) t = plain_twice k p (records q fs) (primes Twice (records q fs)) t refl refl
  unchanged_twice k p (product q es) t = plain_twice k p (product q es) (primes Twice (product q es)) t refl refl
  unchanged_twice k p (cup q a b) t = plain_twice k p (cup q a b) (primes Twice (cup q a b)) t refl refl
  unchanged_twice k p (cap q a b) t = plain_twice k p (cap q a b) (primes Twice (cap q a b)) t refl refl
  unchanged_twice k p (minus q a b) t = plain_twice k p (minus q a b) (primes Twice (minus q a b)) t refl refl
  unchanged_twice k p (filtered q a b) t = plain_twice k p (filtered q a b) (primes Twice (filtered q a b)) t refl refl
  unchanged_twice k p (opened q os a) t = plain_twice k p (opened q os a) (primes Twice (opened q os a)) t refl refl
  unchanged_twice k p (tried q n a) t = plain_twice k p (tried q n a) (primes Twice (tried q n a)) t refl refl
  unchanged_twice k p (now q i) t = plain_twice k p (now q i) (primes Twice (now q i)) t refl refl
  unchanged_twice k p (next q i) t = plain_twice k p (next q i) (primes Twice (next q i)) t refl refl

  unchanged_twice_each : (k : Primes) (p : Place) (es : Exprs) → one_more k ≡ Twice → (unchanged_each p es >>= primes_each k) ≡ (primes_each Twice es >>= unchanged_each p)
  unchanged_twice_each k p no_exprs t = refl
  unchanged_twice_each k p (more_exprs e es) t =
      two (λ x y. more_exprs x y) (primes k) (primes_each k) (primes_each k) (λ x y. refl) (unchanged p e) (unchanged_each p es)
      ∙ rw (unchanged_twice k p e t, unchanged_twice_each k p es t) refl
      ∙ sym (two (λ x y. more_exprs x y) (unchanged p) (unchanged_each p) (unchanged_each p) (λ x y. refl) (primes Twice e) (primes_each Twice es))

kept_primed : (k : Primes) (p : Place) (o : Option Expr) → one_more k ≡ Twice → with_primes k (o >>= unchanged p) ≡ (with_primes Twice o >>= unchanged p)
kept_primed k p None t = refl
kept_primed k p (Some e) t = unchanged_twice k p e t

-- UNCHANGED with primes on it
pub kept_settled : (k : Primes) (p : Place) (o : Option Expr) → with_primes k (o >>= unchanged p) ≡ (with_primes (settled_primes k) o >>= unchanged p)
kept_settled Never p o = shown_not (o >>= unchanged p) ∙ ap (λ (q : Option Expr). q >>= unchanged p) (sym (shown_not o))
kept_settled Once p o = kept_primed Once p o refl
kept_settled Twice p o = kept_primed Twice p o refl

-- v' # v with primes on it
changed_of : (k : Primes) (p : Place) (y : Expr) (o : Option Expr) → (o >>= primes k) ≡ primes (one_more k) y
    → ((o >>= λ x. Some (binary p Unequal x y)) >>= primes k) ≡ (both (primes (one_more k) y) (primes k y) >>= λ (xy : Expr × Expr). Some (binary p Unequal xy.0 xy.1))
changed_of k p y None h = rw (← h) refl
changed_of k p y (Some x) h = rw (← h) (of_pair (primes k x) (primes k y))
  where
    of_pair : (a b : Option Expr) → (a >>= λ u. b >>= λ v. Some (binary p Unequal u v)) ≡ (both a b >>= λ (xy : Expr × Expr). Some (binary p Unequal xy.0 xy.1))
    of_pair None b = refl
    of_pair (Some u) None = refl
    of_pair (Some u) (Some v) = refl

pub changed_shown : (k : Primes) (p : Place) (o : Option Expr) → with_primes k (o >>= changed p) ≡ (both (with_primes (one_more k) o) (with_primes k o) >>= λ (xy : Expr × Expr). Some (binary p Unequal xy.0 xy.1))
changed_shown k p None = refl
changed_shown k p (Some y) = changed_of k p y (primes Once y) (once k y)

pub some_plain : (a x : Expr) → is_tuple a ≡ false → Some a ≡ Some x → is_tuple x ≡ false
some_plain a x t h = let w : a ≡ x = cc in rw (← w) t
