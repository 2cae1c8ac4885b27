-- What expansions name exists: under this many bound names, over this many variables.
use Rattle.std.specs.Prelude.{◌≡◌, ◌≤◌, ℕ, Bool, true, List, [], ◌∷◌, Some}
use Rattle.tla_core.specs.declared.fault.Place.{Place}
use Rattle.tla_core.specs.Expr.{Expr}
use Rattle.tla_core.specs.Fits.{fits}
use Rattle.tla_scopes.specs.declared.primes.Primes.{Primes}
use Rattle.tla_scopes.specs.declared.primes.Primes.TheVariants.{Never, Once, Twice}
use Rattle.tla_scopes.specs.Places as names
use Rattle.tla_scopes.specs.Meanings.{Argument, Meaning, Scope}

-- under n bound names, or more
abbrev pub FitsArgument : ℕ → ℕ → Argument → Type 0
FitsArgument v b a = (d : ℕ) → b ≤ d → (e : Expr) → a d ≡ Some e → fits e d v true ≡ true

abbrev pub FitArguments : ℕ → ℕ → List Argument → Type 0
FitArguments v b [] = Unit {0}
FitArguments v b (a ∷ args) = FitsArgument v b a × FitArguments v b args

-- on arguments that fit
abbrev pub FitsMeaning : ℕ → ℕ → Meaning → Type 0
FitsMeaning v b m = (p : Place) (args : List Argument) (d : ℕ) → b ≤ d → FitArguments v d args → (e : Expr) → m p args d ≡ Some e → fits e d v true ≡ true

abbrev pub FitsScope : ℕ → ℕ → Scope → Type 0
FitsScope v b σ = (x : names.Name) → FitsMeaning v b (σ x)

-- How many variables an expansion may name, and whether present values may be in it, before and after these primes:
-- under one prime no present value is left, under two no variable.
abbrev pub Stays : Primes → ℕ → ℕ → Bool → Type 0
Stays Never v n s = (n ≡ v) × (s ≡ true)
Stays Once v n s = n ≡ v
Stays Twice v n s = Unit {0}
