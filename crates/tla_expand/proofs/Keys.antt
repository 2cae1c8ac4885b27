-- The argument of a function, by how many expressions it is written with.
use Rattle.std.proofs.Common.{◌≡◌, ◌<◌, ℕ, List, [], ◌∷◌, length, get_or, refl, arith, Some}
use Rattle.tla_core.specs.declared.fault.Place.{Place}
use Rattle.tla_core.specs.Expr.{tuple}
use Rattle.tla_tree.specs.declared.tree.Expr as syntax
use Rattle.tla_tree.specs.Places.{place}
use Rattle.tla_tree.specs.View.{view}
use Rattle.tla_scopes.specs.declared.primes.Primes.{Primes}
use Rattle.tla_scopes.specs.Maybe.{◌>>=◌, each_of}
use Rattle.tla_scopes.specs.Lists.{exprs}
use Rattle.tla_scopes.specs.Places.{place_of}
use Rattle.tla_scopes.specs.Meanings.{Scope}
use Rattle.tla_expand.specs.Private.Gives.{part_in, key_in}
use Rattle.tla_expand.proofs.Lists.{key_of_several}

module _ (k : Primes) (σ : Scope) (d : ℕ) where
  pub one_key : (ts : List syntax.Expr) (t : syntax.Expr) → length ts ≡ 1 → t ≡ get_or ts 0 t → key_in k σ d ts ≡ part_in k σ d t
  one_key [] t h g = absurd (omega arith)
  one_key (u ∷ []) t h g = rw g refl
  one_key (u ∷ v ∷ ts) t h g = absurd (omega arith)

  pub several_keys : (ts : List syntax.Expr) (t : syntax.Expr) (p : Place) → 1 < length ts → t ≡ get_or ts 0 t → p ≡ place_of (place (view t))
      → key_in k σ d ts ≡ (each_of (part_in k σ d) ts >>= λ xs. Some (tuple p (exprs xs)))
  several_keys [] t p h g e = absurd (omega arith)
  several_keys (u ∷ []) t p h g e = absurd (omega arith)
  several_keys (u ∷ v ∷ ts) t p h g e = rw (e, g) (key_of_several k u v ts σ d)
