-- UNCHANGED e is e' = e, and where e is a tuple the conjunction of UNCHANGED of each part, TRUE where it has none
-- (book, chapter 16).
use Rattle.std.specs.Prelude.{Option, Some}
use Rattle.tla_core.specs.declared.fault.Place.{Place}
use Rattle.tla_core.specs.Expr.{Expr, Exprs, Unequal, tuple, equal, binary, no_exprs, more_exprs}
use Rattle.tla_scopes.specs.declared.primes.Primes.TheVariants.{Once}
use Rattle.tla_scopes.specs.Maybe.{◌>>=◌}
use Rattle.tla_scopes.specs.Nodes.{kept}
use Rattle.tla_scopes.specs.Primes.{primes}

abbrev mutual
  pub unchanged : Place → Expr → Option Expr
  unchanged p (tuple q es) = unchanged_each p es >>= λ xs. Some (kept p xs)
  unchanged p e = primes Once e >>= λ x. Some (equal p x e)

  pub unchanged_each : Place → Exprs → Option Exprs
  unchanged_each p no_exprs = Some no_exprs
  unchanged_each p (more_exprs e es) = unchanged p e >>= λ x. unchanged_each p es >>= λ xs. Some (more_exprs x xs)

-- e' # e
abbrev pub changed : Place → Expr → Option Expr
changed p e = primes Once e >>= λ x. Some (binary p Unequal x e)
