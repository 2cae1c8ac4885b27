-- The formulas of a model, or why there are none.
use Rattle.std.proofs.Common.{◌≡◌, refl, ap, sym, ◌∙◌, true, Option, Some, None, arith, subst}
use Rattle.tla_core.specs.Expr.{Expr}
use Rattle.tla_tree.specs.declared.word.Written.{Written}
use Rattle.tla_tree.specs.Tree.{Tree}
use Rattle.tla_tree.specs.Tree as t
use Rattle.std.specs.Prelude.{is_some, IfOk, IfErr, Result, Ok, Err}
use Rattle.tla_config.specs.declared.error.DefsCode.{DefsCode}
use Rattle.tla_config.specs.declared.error.DefsCode.TheVariants as c
use Rattle.tla_config.specs.declared.error.DefsError.{DefsError}
use Rattle.tla_config.specs.Names.{Name}
use Rattle.tla_scopes.specs.declared.primes.Primes.{Primes}
use Rattle.tla_scopes.specs.declared.primes.Primes.TheVariants.{Never, Once, Twice}
use Rattle.tla_scopes.specs.Meanings.{Scope}
use Rattle.tla_scopes.specs.Expand.{expand}
use Rattle.tla_scopes.specs.Primes.{with_primes}
use Rattle.tla_scopes.specs.Maybe.{◌>>=◌}
use Rattle.tla_scopes.specs.Primes.{primes}
use Rattle.tla_expand.proofs.Keeps.{stays}
use Rattle.tla_expand.proofs.Levels.{none_more}
use Rattle.tla_expand.proofs.PrimesSize.{primes_sizes}
use Rattle.tla_scopes.proofs.Primed.{unprimed}
use Rattle.tla_expand.proofs.PrimesFit.{inv}
use Rattle.tla_model.specs.Size.{IsWithinLimits}
use Rattle.tla_formulas.specs.Refused.{IsCause, IsOfFormula}
use Rattle.tla_formulas.specs.Formulas.{IsInitial, IsAction, IsStatePredicate, IsAssumption}

-- nothing with these primes is within the limits
abbrev pub NoneShown : Primes → Tree → Scope → Type 0
NoneShown k t σ = (x : Expr) → with_primes k (expand t σ 0) ≡ Some x → IsWithinLimits x → ⊥

pub unprimed_is : (o : Option Expr) (e : Expr) → with_primes Never o ≡ Some e → o ≡ Some e
unprimed_is None e p = p
unprimed_is (Some x) e p = sym (unprimed x) ∙ p

pub shown_unprimed : (o : Option Expr) (e : Expr) → o ≡ Some e → with_primes Never o ≡ Some e
shown_unprimed o e p = ap (λ q. with_primes Never q) p ∙ unprimed e

module _ (σ : Scope) (tree : Tree) where
  pub found_initial : (e : Expr) → with_primes Once (expand tree σ 0) ≡ Some e → IsWithinLimits e → IsInitial σ tree e
  found_initial e p h =
      let b = inv (expand tree σ 0) (primes Once) e p in
      record { before = b.0; meaning = b.1; primed = b.2; limits = h }

  pub no_initial : NoneShown Once tree σ → (e : Expr) → IsInitial σ tree e → ⊥
  no_initial none e h = none e (ap (λ o. o >>= primes Once) h.meaning ∙ h.primed) h.limits

  pub found_action : (e : Expr) → with_primes Never (expand tree σ 0) ≡ Some e → IsWithinLimits e → IsAction σ tree e
  found_action e p h = record { meaning = unprimed_is (expand tree σ 0) e p; limits = h }

  pub no_action : NoneShown Never tree σ → (e : Expr) → IsAction σ tree e → ⊥
  no_action none e h = none e (shown_unprimed (expand tree σ 0) e h.meaning) h.limits

-- what exists
some_of : {A : Type 0} (o : Option A) → is_some o ≡ true → (x : A) × (o ≡ Some x)
some_of None h = let no : ⊥ = cc in absurd no
some_of (Some x) h = (x, refl)

same_expr : (x y : Expr) → Some x ≡ Some y → x ≡ y
same_expr x y p = cc

module _ (σ : Scope) (w : Written) where
  -- a formula of state level is an initial predicate, and unprimed the action of that name
  pub found_predicate : (n e : Expr) → IsInitial σ (t.Name w) n → IsAction σ (t.Name w) e → IsStatePredicate σ w e
  found_predicate n e i a =
      let same = same_expr i.before e (sym i.meaning ∙ a.meaning) in
      let level : is_some (primes Once i.before) ≡ true = rw i.primed refl in
      record { meaning = a.meaning; level = subst (λ x. is_some (primes Once x) ≡ true) same level; limits = a.limits }

  pub not_initial : ((x : Expr) → IsInitial σ (t.Name w) x → ⊥) → (e : Expr) → IsStatePredicate σ w e → ⊥
  not_initial none e h =
      let i = some_of (primes Once e) h.level in
      let s = primes_sizes Once e i.0 i.1 in
      none i.0 (record { before = e; meaning = h.meaning; primed = i.1; limits = record { small = omega (arith, s.0, h.limits.small); shallow = omega (arith, s.1, h.limits.shallow) } })

  pub not_action : ((x : Expr) → IsAction σ (t.Name w) x → ⊥) → (e : Expr) → IsStatePredicate σ w e → ⊥
  not_action none e h = none e (record { meaning = h.meaning; limits = h.limits })

-- a name without an expansion as an action has none of state level
once_cause : (k : DefsCode) (o : Option Expr) → IsCause k o Never → IsCause k o Once
once_cause c.Level o h = none_more Never Once o refl h
once_cause c.ExpansionTooLarge o h = h
once_cause c.ConfigurationText o h = h
once_cause c.UnknownName o h = h
once_cause c.DefinedTwice o h = h
once_cause c.ArgumentCount o h = h
once_cause c.ConstantWithoutValue o h = h
once_cause c.CircularReplacement o h = h
once_cause c.SpecificationForm o h = h
once_cause c.BehaviourCount o h = h
once_cause c.StatementLeftOut o h = h
once_cause c.Memory o h = h

pub once_told : (o : Option Expr) (e : DefsError) → IsOfFormula o Never e → IsOfFormula o Once e
once_told o e r = record { cause = once_cause e.code o r.cause; source = r.source; place = r.place; name = r.name }

-- an expression without a variable is unchanged
of_twice : (o : Option Expr) (e : Expr) → with_primes Twice o ≡ Some e → (o ≡ Some e) × (primes Twice e ≡ Some e)
of_twice None e p = let no : ⊥ = cc in absurd no
of_twice (Some x) e p = let s = stays x e p Twice in let same : x ≡ e = cc in (ap (λ y. Some y) same, subst (λ y. primes Twice y ≡ Some y) same s)

module _ (σ : Scope) (tree : Tree) where
  pub found_assumption : (e : Expr) → with_primes Twice (expand tree σ 0) ≡ Some e → IsWithinLimits e → IsAssumption σ tree e
  found_assumption e p h = let f = of_twice (expand tree σ 0) e p in record { expanded = f.0; level = f.1; limits = h }

  pub no_assumption : NoneShown Twice tree σ → (e : Expr) → IsAssumption σ tree e → ⊥
  no_assumption none e h = none e (ap (λ o. o >>= primes Twice) h.expanded ∙ h.level) h.limits

pub if_ok : {A E : Type 0} {P Q : A → Type 0} (r : Result A E) → ((x : A) → P x → Q x) → IfOk r P → IfOk r Q
if_ok (Ok x) f h = f x h
if_ok (Err e) f h = tt

pub if_err : {A E : Type 0} {P Q : E → Type 0} (r : Result A E) → ((e : E) → P e → Q e) → IfErr r P → IfErr r Q
if_err (Ok x) f h = tt
if_err (Err e) f h = f e h
