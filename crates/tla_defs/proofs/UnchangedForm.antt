-- UNCHANGED of a well-formed expression is well-formed.
use Rattle.std.proofs.Common.{◌≡◌, Bool, true, false, ◌&&◌, refl, sym, Some}
use Rattle.tla_core.specs.declared.fault.Place.{Place}
use Rattle.tla_core.specs.Expr.{Expr, Exprs, constant, bound, now, next, unary, binary, equal, sub_seq, enumerated, tuple, record_of, conjunction, disjunction, implies, conditional, cases, assert, for_all, for_some, choose, image, function, except, member, not_member, subset, kind_set, booleans, sequences, power, functions, records, product, cup, cap, minus, filtered, opened, tried, no_exprs, more_exprs}
use Rattle.tla_model.specs.WellFormed.{is_of_pattern, is_well_formed, are_well_formed}
use Rattle.tla_scopes.specs.declared.primes.Primes.TheVariants.{Once}
use Rattle.tla_scopes.specs.Maybe.{◌>>=◌}
use Rattle.tla_scopes.specs.Nodes.{kept}
use Rattle.tla_scopes.specs.Primes.{primes}
use Rattle.tla_scopes.specs.Unchanged.{unchanged, unchanged_each}
use Rattle.tla_expand.proofs.PrimesFit.{inv}
use Rattle.tla_defs.proofs.PrimesForm.{primes_form}

-- a form of its own, which is well-formed
abbrev pub IsForm : Expr → Type 0
IsForm e = (is_of_pattern e ≡ false) × (is_well_formed e ≡ true)

pub some : (x e : Expr) → Some x ≡ Some e → IsForm x → IsForm e
some x e q k = let same : x ≡ e = cc in rw (sym same) k

pub both : (a b : Bool) → (a && b) ≡ true → (a ≡ true) × (b ≡ true)
both true b h = (refl, h)
both false b h = cc

plain : (p : Place) (t : Expr) (e : Expr) → is_well_formed t ≡ true → (primes Once t >>= λ x. Some (equal p x t)) ≡ Some e → IsForm e
plain p t e h q =
    let i = inv (primes Once t) (λ x. Some (equal p x t)) e q in
    some (equal p i.0 t) e i.2 (refl, rw ((primes_form Once t i.0 i.1).1, h) refl)

kept_form : (p : Place) (xs : Exprs) → are_well_formed xs ≡ true → IsForm (kept p xs)
kept_form p no_exprs h = (refl, refl)
kept_form p (more_exprs x xs) h = (refl, h)

mutual
  pub unchanged_form : (p : Place) (t : Expr) (e : Expr) → is_well_formed t ≡ true → unchanged p t ≡ Some e → IsForm e
  unchanged_form p (tuple r es) e h q =
      let i = inv (unchanged_each p es) (λ xs. Some (kept p xs)) e q in
      some (kept p i.0) e i.2 (kept_form p i.0 (unchanged_forms p es i.0 h i.1))
  unchanged_form p (constant r o) e h q = plain p (constant r o) e h q
  unchanged_form p (bound r o) e h q = plain p (bound r o) e h q
  unchanged_form p (now r o) e h q = plain p (now r o) e h q
  unchanged_form p (next r o) e h q = plain p (next r o) e h q
  unchanged_form p (unary r o a) e h q = plain p (unary r o a) e h q
  unchanged_form p (binary r o a b) e h q = plain p (binary r o a b) e h q
  unchanged_form p (equal r a b) e h q = plain p (equal r a b) e h q
  unchanged_form p (sub_seq r a b c) e h q = plain p (sub_seq r a b c) e h q
  unchanged_form p (enumerated r es) e h q = plain p (enumerated r es) e h q
  unchanged_form p (record_of r fs) e h q = plain p (record_of r fs) e h q
  unchanged_form p (conjunction r es) e h q = plain p (conjunction r es) e h q
  unchanged_form p (disjunction r es) e h q = plain p (disjunction r es) e h q
  unchanged_form p (implies r a b) e h q = plain p (implies r a b) e h q
  unchanged_form p (conditional r a b c) e h q = plain p (conditional r a b c) e h q
  unchanged_form p (cases r arms) e h q = plain p (cases r arms) e h q
  unchanged_form p (assert r a b) e h q = plain p (assert r a b) e h q
  unchanged_form p (for_all r a b) e h q = plain p (for_all r a b) e h q
  unchanged_form p (for_some r a b) e h q = plain p (for_some r a b) e h q
  unchanged_form p (choose r a b) e h q = plain p (choose r a b) e h q
  unchanged_form p (image r es a) e h q = plain p (image r es a) e h q
  unchanged_form p (function r es a) e h q = plain p (function r es a) e h q
  unchanged_form p (except r a us) e h q = plain p (except r a us) e h q
  unchanged_form p (member r a b) e h q = plain p (member r a b) e h q
  unchanged_form p (not_member r a b) e h q = plain p (not_member r a b) e h q
  unchanged_form p (subset r a b) e h q = plain p (subset r a b) e h q
  unchanged_form p (kind_set r o) e h q = plain p (kind_set r o) e h q
  unchanged_form p (booleans r) e h q = plain p (booleans r) e h q
  unchanged_form p (sequences r a) e h q = plain p (sequences r a) e h q
  unchanged_form p (power r a) e h q = plain p (power r a) e h q
  unchanged_form p (functions r a b) e h q = plain p (functions r a b) e h q
  unchanged_form p (records r fs) e h q = plain p (records r fs) e h q
  unchanged_form p (product r es) e h q = plain p (product r es) e h q
  unchanged_form p (cup r a b) e h q = plain p (cup r a b) e h q
  unchanged_form p (cap r a b) e h q = plain p (cap r a b) e h q
  unchanged_form p (minus r a b) e h q = plain p (minus r a b) e h q
  unchanged_form p (filtered r a b) e h q = plain p (filtered r a b) e h q
  unchanged_form p (opened r o a) e h q = plain p (opened r o a) e h q
  unchanged_form p (tried r o a) e h q = plain p (tried r o a) e h q

  unchanged_forms : (p : Place) (ts : Exprs) (es : Exprs) → are_well_formed ts ≡ true → unchanged_each p ts ≡ Some es → are_well_formed es ≡ true
  unchanged_forms p no_exprs es h q = let same : no_exprs ≡ es = cc in rw (sym same) refl
  unchanged_forms p (more_exprs t ts) es h q =
      let parts = both (is_well_formed t) (are_well_formed ts) h in
      let i = inv (unchanged p t) (λ x. unchanged_each p ts >>= λ y. Some (more_exprs x y)) es q in
      let j = inv (unchanged_each p ts) (λ y. Some (more_exprs i.0 y)) es i.2 in
      let same : more_exprs i.0 j.0 ≡ es = cc in
      rw (sym same, (unchanged_form p t i.0 parts.0 i.1).1, unchanged_forms p ts j.0 parts.1 j.1) refl
