-- What is so of every expansion.
use Rattle.std.specs.Prelude.{◌≡◌, ℕ, Bool, true, Some}
use Rattle.tla_core.specs.Expr.{Expr}
use Rattle.tla_core.specs.Fits.{fits}
use Rattle.tla_tree.specs.Tree.{Tree}
use Rattle.tla_scopes.specs.declared.primes.Primes.{Primes}
use Rattle.tla_scopes.specs.Meanings.{Scope}
use Rattle.tla_scopes.specs.Expand.{expand}
use Rattle.tla_expand.specs.Fits.{FitsScope, Stays}
use Rattle.tla_scopes.specs.Primes.{primes}

-- in a scope whose meanings name what exists, an expansion names what exists
abbrev pub ExpansionsFit : Type 0
ExpansionsFit = (t : Tree) (σ : Scope) (v d : ℕ) → FitsScope v d σ → (e : Expr) → expand t σ d ≡ Some e → fits e d v true ≡ true

-- with one prime no present value is left, and with two no variable
abbrev pub PrimesFit : Type 0
PrimesFit = (k : Primes) (v n : ℕ) (s : Bool) → Stays k v n s → (t : Expr) (b : ℕ) (e : Expr) → primes k t ≡ Some e → fits e b n s ≡ fits t b v true
