-- Why a formula of a model is refused. (This project's own choice.)
use Rattle.std.specs.Prelude.{◌≡◌, true, is_some, Option, Some, None}
use Rattle.tla_core.specs.Expr.{Expr}
use Rattle.tla_config.specs.declared.error.DefsCode.{DefsCode}
use Rattle.tla_config.specs.declared.error.DefsCode.TheVariants as c
use Rattle.tla_config.specs.declared.error.DefsError.{DefsError}
use Rattle.tla_config.specs.declared.error.Source.TheVariants as source
use Rattle.tla_scopes.specs.declared.primes.Primes.{Primes}
use Rattle.tla_scopes.specs.Primes.{with_primes}
use Rattle.tla_model.specs.Size.{IsWithinLimits}

-- Why a formula with this expansion and these primes, by its level, is refused: it isn't of the level (C5), or it isn't
-- within the limits (C11).
abbrev pub IsCause : DefsCode → Option Expr → Primes → Type 0
IsCause c.Level o k = with_primes k o ≡ None
IsCause c.ExpansionTooLarge o k = (x : Expr) → o ≡ Some x → IsWithinLimits x → ⊥
IsCause _ o k = ⊥

-- the refusal of such a formula; its place, somewhere in the module, is not defined here
pub record IsOfFormula (o : Option Expr) (k : Primes) (e : DefsError) : Type 0 where
  pub cause : IsCause e.code o k
  pub source : e.source ≡ source.Module
  pub place : is_some e.place ≡ true
  pub name : e.name ≡ None
