-- UNCHANGED of an expression is no smaller than the expression.
use Rattle.std.proofs.Common.{◌≡◌, ◌≤◌, ◌+◌, refl, sym, arith, Some}
use Rattle.tla_core.specs.declared.fault.Place.{Place}
use Rattle.tla_core.specs.Expr.{Expr, Exprs, constant, bound, now, next, unary, binary, equal, sub_seq, enumerated, tuple, record_of, conjunction, disjunction, implies, conditional, cases, assert, for_all, for_some, choose, image, function, except, member, not_member, subset, kind_set, booleans, sequences, power, functions, records, product, cup, cap, minus, filtered, opened, tried, no_exprs, more_exprs}
use Rattle.tla_model.specs.Size.{nodes, nodes_each, depth, depth_each}
use Rattle.tla_scopes.specs.declared.primes.Primes.TheVariants.{Once}
use Rattle.tla_scopes.specs.Maybe.{◌>>=◌}
use Rattle.tla_scopes.specs.Nodes.{kept}
use Rattle.tla_scopes.specs.Primes.{primes}
use Rattle.tla_scopes.specs.Unchanged.{unchanged, unchanged_each}
use Rattle.tla_expand.proofs.Keeps.{inv}

abbrev IsNoLarger : Expr → Expr → Type 0
IsNoLarger e y = (nodes e ≤ nodes y) × (depth e ≤ depth y)

equation_larger : (p : Place) (e y : Expr) → (primes Once e >>= λ x. Some (equal p x e)) ≡ Some y → IsNoLarger e y
equation_larger p e y h =
    let i = inv (primes Once e) (λ x. Some (equal p x e)) y h in
    let same : equal p i.0 e ≡ y = cc in
    rw (sym same) (omega arith, omega arith)

kept_nodes : (p : Place) (xs : Exprs) → (nodes (kept p xs) ≡ nodes_each xs + 1) × (depth (kept p xs) ≡ depth_each xs + 1)
kept_nodes p no_exprs = (refl, refl)
kept_nodes p (more_exprs x xs) = (refl, refl)

mutual
  pub unchanged_larger : (p : Place) (e y : Expr) → unchanged p e ≡ Some y → IsNoLarger e y
  unchanged_larger p (constant q o) y h = equation_larger p (constant q o) y h
  unchanged_larger p (bound q o) y h = equation_larger p (bound q o) y h
  unchanged_larger p (kind_set q o) y h = equation_larger p (kind_set q o) y h
  unchanged_larger p (booleans q) y h = equation_larger p (booleans q) y h
  unchanged_larger p (now q o) y h = equation_larger p (now q o) y h
  unchanged_larger p (next q o) y h = equation_larger p (next q o) y h
  unchanged_larger p (unary q o a) y h = equation_larger p (unary q o a) y h
  unchanged_larger p (binary q o a b) y h = equation_larger p (binary q o a b) y h
  unchanged_larger p (equal q a b) y h = equation_larger p (equal q a b) y h
  unchanged_larger p (sub_seq q a b c) y h = equation_larger p (sub_seq q a b c) y h
  unchanged_larger p (enumerated q es) y h = equation_larger p (enumerated q es) y h
  unchanged_larger p (record_of q fs) y h = equation_larger p (record_of q fs) y h
  unchanged_larger p (conjunction q es) y h = equation_larger p (conjunction q es) y h
  unchanged_larger p (disjunction q es) y h = equation_larger p (disjunction q es) y h
  unchanged_larger p (implies q a b) y h = equation_larger p (implies q a b) y h
  unchanged_larger p (conditional q a b c) y h = equation_larger p (conditional q a b c) y h
  unchanged_larger p (cases q arms) y h = equation_larger p (cases q arms) y h
  unchanged_larger p (assert q a b) y h = equation_larger p (assert q a b) y h
  unchanged_larger p (for_all q a b) y h = equation_larger p (for_all q a b) y h
  unchanged_larger p (for_some q a b) y h = equation_larger p (for_some q a b) y h
  unchanged_larger p (choose q a b) y h = equation_larger p (choose q a b) y h
  unchanged_larger p (image q es a) y h = equation_larger p (image q es a) y h
  unchanged_larger p (function q es a) y h = equation_larger p (function q es a) y h
  unchanged_larger p (except q a us) y h = equation_larger p (except q a us) y h
  unchanged_larger p (member q a b) y h = equation_larger p (member q a b) y h
  unchanged_larger p (not_member q a b) y h = equation_larger p (not_member q a b) y h
  unchanged_larger p (subset q a b) y h = equation_larger p (subset q a b) y h
  unchanged_larger p (sequences q a) y h = equation_larger p (sequences q a) y h
  unchanged_larger p (power q a) y h = equation_larger p (power q a) y h
  unchanged_larger p (functions q a b) y h = equation_larger p (functions q a b) y h
  unchanged_larger p (records q fs) y h = equation_larger p (records q fs) y h
  unchanged_larger p (product q es) y h = equation_larger p (product q es) y h
  unchanged_larger p (cup q a b) y h = equation_larger p (cup q a b) y h
  unchanged_larger p (cap q a b) y h = equation_larger p (cap q a b) y h
  unchanged_larger p (minus q a b) y h = equation_larger p (minus q a b) y h
  unchanged_larger p (filtered q a b) y h = equation_larger p (filtered q a b) y h
  unchanged_larger p (opened q os a) y h = equation_larger p (opened q os a) y h
  unchanged_larger p (tried q n a) y h = equation_larger p (tried q n a) y h
  unchanged_larger p (tuple q es) y h =
      let i = inv (unchanged_each p es) (λ xs. Some (kept p xs)) y h in
      let same : kept p i.0 ≡ y = cc in
      let l = each_larger p es i.0 i.1 in
      let k = kept_nodes p i.0 in
      rw (sym same) (omega (arith, l.0, k.0), omega (arith, l.1, k.1))

  each_larger : (p : Place) (es ys : Exprs) → unchanged_each p es ≡ Some ys → (nodes_each es ≤ nodes_each ys) × (depth_each es ≤ depth_each ys)
  each_larger p no_exprs ys h = let same : no_exprs ≡ ys = cc in rw (sym same) (omega arith, omega arith)
  each_larger p (more_exprs e es) ys h =
      let i = inv (unchanged p e) (λ x. unchanged_each p es >>= λ xs. Some (more_exprs x xs)) ys h in
      let j = inv (unchanged_each p es) (λ xs. Some (more_exprs i.0 xs)) ys i.2 in
      let same : more_exprs i.0 j.0 ≡ ys = cc in
      let a = unchanged_larger p e i.0 i.1 in
      let b = each_larger p es j.0 j.1 in
      rw (sym same) (omega (arith, a.0, b.0), omega (arith, a.1, b.1))
