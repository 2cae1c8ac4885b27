-- How many arguments each name takes, as a scope keeps it. Private contracts alone cite this.
use Rattle.std.specs.Prelude.{◌≡◌, ℕ, List, [], ◌∷◌, ◌++◌, Option, None, map, unwrap_or}
use Rattle.std.specs.Borrow.{Bor}
use Rattle.std.specs.Map.{lookup}
use Rattle.std.specs.Str.{bytes_eq}
use Rattle.tla_config.specs.Names.{Name}
use Rattle.tla_names.specs.declared.scope.Signature.{Signature}
use Rattle.tla_names.specs.Scope as names
use Rattle.tla_names.specs.Scope.{arity}

abbrev pub signature_of : Signature → names.Signature
signature_of k = (k.name.now, k.arity)

-- how many arguments a name takes where these are in scope
abbrev pub arity_in : List Signature → Name → Option ℕ
arity_in ks x = arity (map signature_of ks) x

-- how many it takes by a table
abbrev pub arity_by : List (Bor Name × Option ℕ) → Name → Option ℕ
arity_by es x = unwrap_or (lookup (λ (k : Bor Name). bytes_eq x k.now) es) None

-- the table has what is in scope
pub record IsTable (es : List (Bor Name × Option ℕ)) (ks : List Signature) : Type 0 where
  pub each : (x : Name) → arity_by es x ≡ arity_in ks x

-- each of these remembers how many arguments its name took before it
abbrev pub KeepBeforeFrom : List Signature → List Signature → Type 0
KeepBeforeFrom before [] = Unit {0}
KeepBeforeFrom before (k ∷ ks) = (k.before ≡ arity_in before k.name.now) × KeepBeforeFrom (before ++ k ∷ []) ks

pub record KeepBefore (ks : List Signature) : Type 0 where
  pub each : KeepBeforeFrom [] ks
