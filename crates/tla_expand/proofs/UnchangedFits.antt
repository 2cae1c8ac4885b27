-- UNCHANGED names what its expression names.
use Rattle.std.proofs.Common.{◌≡◌, ℕ, ◌&&◌, Bool, true, false, refl, sym, Some}
use Rattle.tla_core.specs.declared.fault.Place.{Place}
use Rattle.tla_core.specs.Expr.{Expr, Exprs, constant, bound, now, next, unary, binary, equal, sub_seq, enumerated, tuple, record_of, conjunction, disjunction, implies, conditional, cases, assert, for_all, for_some, choose, image, function, except, member, not_member, subset, kind_set, booleans, sequences, power, functions, records, product, cup, cap, minus, filtered, opened, tried, no_exprs, more_exprs}
use Rattle.tla_core.specs.Fits.{fits, fits_all}
use Rattle.tla_scopes.specs.declared.primes.Primes.TheVariants.{Once}
use Rattle.tla_scopes.specs.Maybe.{◌>>=◌}
use Rattle.tla_scopes.specs.Nodes.{kept}
use Rattle.tla_scopes.specs.Primes.{primes}
use Rattle.tla_scopes.specs.Unchanged.{unchanged, unchanged_each}
use Rattle.tla_expand.proofs.PrimesFit.{inv, primes_fit}

and_same : (x : Bool) → (x && x) ≡ x
and_same true = refl
and_same false = refl

plain : (p : Place) (t : Expr) (b v : ℕ) (e : Expr) → (primes Once t >>= λ x. Some (equal p x t)) ≡ Some e → fits e b v true ≡ fits t b v true
plain p t b v e q =
    let i = inv (primes Once t) (λ x. Some (equal p x t)) e q in
    let same : equal p i.0 t ≡ e = cc in
    rw (sym same, primes_fit Once v v true refl t b i.0 i.1) (and_same (fits t b v true))

kept_fits : (p : Place) (xs : Exprs) (b v : ℕ) → fits (kept p xs) b v true ≡ fits_all xs b v true
kept_fits p no_exprs b v = refl
kept_fits p (more_exprs x xs) b v = refl

mutual
  pub unchanged_fits : (p : Place) (t : Expr) (b v : ℕ) (e : Expr) → unchanged p t ≡ Some e → fits e b v true ≡ fits t b v true
  unchanged_fits p (constant r w) b v e q = plain p (constant r w) b v e q
  unchanged_fits p (bound r i) b v e q = plain p (bound r i) b v e q
  unchanged_fits p (now r i) b v e q = plain p (now r i) b v e q
  unchanged_fits p (next r i) b v e q = plain p (next r i) b v e q
  unchanged_fits p (unary r o a) b v e q = plain p (unary r o a) b v e q
  unchanged_fits p (binary r o a c) b v e q = plain p (binary r o a c) b v e q
  unchanged_fits p (equal r a c) b v e q = plain p (equal r a c) b v e q
  unchanged_fits p (sub_seq r a c d) b v e q = plain p (sub_seq r a c d) b v e q
  unchanged_fits p (enumerated r es) b v e q = plain p (enumerated r es) b v e q
  unchanged_fits p (record_of r fs) b v e q = plain p (record_of r fs) b v e q
  unchanged_fits p (conjunction r es) b v e q = plain p (conjunction r es) b v e q
  unchanged_fits p (disjunction r es) b v e q = plain p (disjunction r es) b v e q
  unchanged_fits p (implies r a c) b v e q = plain p (implies r a c) b v e q
  unchanged_fits p (conditional r a c d) b v e q = plain p (conditional r a c d) b v e q
  unchanged_fits p (cases r arms) b v e q = plain p (cases r arms) b v e q
  unchanged_fits p (assert r a c) b v e q = plain p (assert r a c) b v e q
  unchanged_fits p (for_all r a c) b v e q = plain p (for_all r a c) b v e q
  unchanged_fits p (for_some r a c) b v e q = plain p (for_some r a c) b v e q
  unchanged_fits p (choose r a c) b v e q = plain p (choose r a c) b v e q
  unchanged_fits p (image r es a) b v e q = plain p (image r es a) b v e q
  unchanged_fits p (function r es a) b v e q = plain p (function r es a) b v e q
  unchanged_fits p (except r a us) b v e q = plain p (except r a us) b v e q
  unchanged_fits p (member r a c) b v e q = plain p (member r a c) b v e q
  unchanged_fits p (not_member r a c) b v e q = plain p (not_member r a c) b v e q
  unchanged_fits p (subset r a c) b v e q = plain p (subset r a c) b v e q
  unchanged_fits p (kind_set r o) b v e q = plain p (kind_set r o) b v e q
  unchanged_fits p (booleans r) b v e q = plain p (booleans r) b v e q
  unchanged_fits p (sequences r a) b v e q = plain p (sequences r a) b v e q
  unchanged_fits p (power r a) b v e q = plain p (power r a) b v e q
  unchanged_fits p (functions r a c) b v e q = plain p (functions r a c) b v e q
  unchanged_fits p (records r fs) b v e q = plain p (records r fs) b v e q
  unchanged_fits p (product r es) b v e q = plain p (product r es) b v e q
  unchanged_fits p (cup r a c) b v e q = plain p (cup r a c) b v e q
  unchanged_fits p (cap r a c) b v e q = plain p (cap r a c) b v e q
  unchanged_fits p (minus r a c) b v e q = plain p (minus r a c) b v e q
  unchanged_fits p (filtered r a c) b v e q = plain p (filtered r a c) b v e q
  unchanged_fits p (opened r os a) b v e q = plain p (opened r os a) b v e q
  unchanged_fits p (tried r n a) b v e q = plain p (tried r n a) b v e q
  unchanged_fits p (tuple r es) b v e q =
      let i = inv (unchanged_each p es) (λ xs. Some (kept p xs)) e q in
      let same : kept p i.0 ≡ e = cc in
      rw (sym same, kept_fits p i.0 b v) (unchanged_fit p es b v i.0 i.1)

  pub unchanged_fit : (p : Place) (ts : Exprs) (b v : ℕ) (es : Exprs) → unchanged_each p ts ≡ Some es → fits_all es b v true ≡ fits_all ts b v true
  unchanged_fit p no_exprs b v es q = let same : no_exprs ≡ es = cc in rw (sym same) refl
  unchanged_fit p (more_exprs t ts) b v es q =
      let i = inv (unchanged p t) (λ x. unchanged_each p ts >>= λ y. Some (more_exprs x y)) es q in
      let j = inv (unchanged_each p ts) (λ y. Some (more_exprs i.0 y)) es i.2 in
      let same : more_exprs i.0 j.0 ≡ es = cc in
      rw (sym same, unchanged_fits p t b v i.0 i.1, unchanged_fit p ts b v j.0 j.1) refl
