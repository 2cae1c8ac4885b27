-- The parts of a model can be evaluated: what they name exists.
use Rattle.std.proofs.Common.{◌≡◌, ◌≤◌, ℕ, ◌+◌, true, false, Bool, refl, sym, subst, ◌∙◌, arith, length, List, [], ◌∷◌, Option, Some, None, inl, inr, length-append}
use Rattle.std.specs.Prelude.{is_some}
use Rattle.std.proofs.lemmas.List.{length-map}
use Rattle.std.proofs.lemmas.Bool.{lt-ltb}
use Rattle.tla_value.specs.Tree as value
use Rattle.tla_core.specs.Expr.{Expr, constant}
use Rattle.tla_core.specs.Fits.{fits}
use Rattle.tla_core.specs.Next.{has_next}
use Rattle.tla_tree.specs.declared.word.Written.{Written}
use Rattle.tla_tree.specs.Tree.{Tree, DefinesOperator}
use Rattle.tla_tree.specs.Tree as t
use Rattle.tla_tree.specs.Units.{UnitTree, Separator, Extends, Variables, Operator, Defines, Local, Constants, Assume, Theorem}
use Rattle.tla_config.specs.Names.{Name, words, is_among}
use Rattle.tla_config.specs.Statements.{Statement, Item, Value, Replaces, items_of}
use Rattle.tla_scopes.specs.declared.primes.Primes.TheVariants.{Once, Twice}
use Rattle.tla_scopes.specs.Primes.{primes}
use Rattle.tla_scopes.specs.Meanings.{Scope, standard, variable, with_name}
use Rattle.tla_scopes.specs.Expand.{expand}
use Rattle.tla_expand.specs.Fits.{FitsScope, FitsMeaning}
use Rattle.tla_expand.proofs.PrimesFit.{primes_fit}
use Rattle.tla_expand.proofs.Fitting.{expand_fits, definition_fits}
use Rattle.tla_expand.proofs.MeaningsFit.{name_fits, variable_fits, standard_fits}
use Rattle.tla_model.specs.IsSound.{IsSound, IsUsable, AreUsable, AreOfState, bodies}
use Rattle.tla_model.specs.ModelTree.{ModelTree}
use Rattle.tla_model.specs.Size.{IsWithinLimits}
use Rattle.tla_defs.specs.Global.{meant, units_in, unless, variables_in, with_variable, with_operator}
use Rattle.tla_defs.specs.Private.Passes.{global, raised}
use Rattle.tla_items.specs.Items.{replaced_names}
use Rattle.tla_defs.specs.Given.{fixed, with_items}
use Rattle.tla_names.specs.Scope.{signature}
use Rattle.tla_names.specs.Misuses.{variables_of}
use Rattle.tla_names.specs.WellScopedModule.{IsWellScopedModule}
use Rattle.tla_formulas.specs.Formulas.{meaning_in}
use Rattle.tla_defs.specs.Model.{AreStatePredicates, AreAssumptions, IsBehaviour, IsModel, assumptions_of, invariants_named, constraints_named}
use Rattle.tla_defs.proofs.OneScope.{has_scope, in_order, model_scope}
use Rattle.tla_defs.proofs.NoNext.{no_next}
use Rattle.tla_defs.proofs.PrimesForm.{primes_form}
use Rattle.tla_defs.proofs.UnchangedForm.{IsForm}
use Rattle.tla_defs.proofs.MeaningsForm.{IsFormScope, named_form}
use Rattle.tla_defs.proofs.ScopedForm.{AreScoped, scoped_form, assumptions_scoped, global_form, specified_initial, specified_action}

variables_fit : (ws : List Written) (i n : ℕ) (σ : Scope) → i + length ws ≤ n → FitsScope n 0 σ → FitsScope n 0 (variables_in i ws σ)
variables_fit [] i n σ h s = s
variables_fit (w ∷ ws) i n σ h s =
    variables_fit ws (i + 1) n (with_variable i w.word σ) (omega (arith, h)) (name_fits n 0 w.word (variable i) σ (variable_fits n 0 i (lt-ltb i n (omega (arith, h)))) s)

unless_fits : (b : Bool) (n : ℕ) (τ σ : Scope) → FitsScope n 0 τ → FitsScope n 0 σ → FitsScope n 0 (unless b τ σ)
unless_fits true n τ σ t s = s
unless_fits false n τ σ t s = t

operator_fits : (w : Written) (e : Tree) (n : ℕ) (σ : Scope) → FitsScope n 0 σ → FitsScope n 0 (with_operator w.word e σ)
operator_fits w e n σ s = definition_fits (DefinesOperator w [] e) σ n 0 s

units_fit : (xs : List Name) (us : List UnitTree) (i n : ℕ) (σ : Scope) → i + length (variables_of us) ≤ n → FitsScope n 0 σ → FitsScope n 0 (units_in xs i us σ)
units_fit xs [] i n σ h s = s
units_fit xs (Variables at ws ∷ us) i n σ h s =
    let all = length-append (words ws) (variables_of us) in
    let one = length-map ws (λ (w : Written). w.word) in
    units_fit xs us (i + length ws) n (variables_in i ws σ) (omega (arith, h, all, one)) (variables_fit ws i n σ (omega (arith, h, all, one)) s)
units_fit xs (Operator w e ∷ us) i n σ h s = units_fit xs us i n _ h (unless_fits (is_among w.word xs) n _ σ (operator_fits w e n σ s) s)
units_fit xs (Defines d ∷ us) i n σ h s = units_fit xs us i n _ h (unless_fits (is_among (signature d).0 xs) n _ σ (definition_fits d σ n 0 s) s)
units_fit xs (Local at d ∷ us) i n σ h s = units_fit xs us i n _ h (unless_fits (is_among (signature d).0 xs) n _ σ (definition_fits d σ n 0 s) s)
units_fit xs (Assume at (Some w) e ∷ us) i n σ h s = units_fit xs us i n _ h (unless_fits (is_among w.word xs) n _ σ (operator_fits w e n σ s) s)
units_fit xs (Assume at None e ∷ us) i n σ h s = units_fit xs us i n σ h s
units_fit xs (Separator at ∷ us) i n σ h s = units_fit xs us i n σ h s
units_fit xs (Extends at ws ∷ us) i n σ h s = units_fit xs us i n σ h s
units_fit xs (Constants at ds ∷ us) i n σ h s = units_fit xs us i n σ h s
units_fit xs (Theorem at w e ∷ us) i n σ h s = units_fit xs us i n σ h s

-- a value fits everywhere
fixed_fits : (n : ℕ) (v : value.Tree) → FitsMeaning n 0 (fixed v)
fixed_fits n v p [] d l r e q =
    let same : constant p v ≡ e = cc in
    rw (sym same) refl
fixed_fits n v p (a ∷ args) d l r e q = let z : ⊥ = cc in absurd z

items_fit : (ρ : Scope) (is : List Item) (n : ℕ) (σ : Scope) → FitsScope n 0 ρ → FitsScope n 0 σ → FitsScope n 0 (with_items ρ is σ)
items_fit ρ [] n σ r s = s
items_fit ρ (Value w v ∷ is) n σ r s = items_fit ρ is n (with_name w.word (fixed v) σ) r (name_fits n 0 w.word (fixed v) σ (fixed_fits n v) s)
items_fit ρ (Replaces w op ∷ is) n σ r s = items_fit ρ is n (with_name w.word (ρ op.word) σ) r (name_fits n 0 w.word (ρ op.word) σ (r op.word) s)

meant_fits : (us : List UnitTree) (is : List Item) (ρ : Scope) → FitsScope (length (variables_of us)) 0 ρ → FitsScope (length (variables_of us)) 0 (meant us is ρ)
meant_fits us is ρ r =
    let n = length (variables_of us) in
    units_fit (replaced_names is) us 0 n (with_items ρ is standard) (omega arith) (items_fit ρ is n standard r (standard_fits n 0))

raised_fits : (us : List UnitTree) (is js : List Item) (ρ : Scope) → FitsScope (length (variables_of us)) 0 ρ → FitsScope (length (variables_of us)) 0 (raised us is js ρ)
raised_fits us is [] ρ r = r
raised_fits us is (Value w v ∷ js) ρ r = raised_fits us is js ρ r
raised_fits us is (Replaces w op ∷ js) ρ r = raised_fits us is js (meant us is ρ) (meant_fits us is ρ r)

-- the names of a module stand for what exists
global_fits : (us : List UnitTree) (is : List Item) → FitsScope (length (variables_of us)) 0 (global us is)
global_fits us is = raised_fits us is is (meant us is standard) (meant_fits us is standard (standard_fits (length (variables_of us)) 0))

usable : (n : ℕ) (s : Bool) (e : Expr) → fits e 0 n s ≡ true → IsForm e → IsWithinLimits e → IsUsable n s e
usable n s e p f h = record { named = p; shallow = h.shallow; formed = f.1 }

-- what can be primed is of one state
of_state : (e : Expr) (o : Option Expr) → primes Once e ≡ o → is_some o ≡ true → has_next e ≡ false
of_state e (Some x) q h = no_next e x q
of_state e None q h = let z : ⊥ = cc in absurd z

module _ (n : ℕ) (σ : Scope) (scope : FitsScope n 0 σ) (forms : IsFormScope σ) where
  meaning_fits : (w : Written) (e : Expr) → meaning_in σ w ≡ Some e → fits e 0 n true ≡ true
  meaning_fits w e m = expand_fits (t.Name w) σ n 0 scope e m

  predicates_usable : (ws : List Written) (is : List (Name × Expr)) → AreStatePredicates σ ws is → AreUsable n true (bodies is)
  predicates_usable [] [] h = tt
  predicates_usable [] (i ∷ is) h = absurd h
  predicates_usable (w ∷ ws) [] h = absurd h
  predicates_usable (w ∷ ws) (i ∷ is) h = (usable n true i.1 (meaning_fits w i.1 h.1.meaning) (named_form w σ 0 forms i.1 h.1.meaning) h.1.limits, predicates_usable ws is h.2)

  predicates_of_state : (ws : List Written) (is : List (Name × Expr)) → AreStatePredicates σ ws is → AreOfState (bodies is)
  predicates_of_state [] [] h = tt
  predicates_of_state [] (i ∷ is) h = absurd h
  predicates_of_state (w ∷ ws) [] h = absurd h
  predicates_of_state (w ∷ ws) (i ∷ is) h = (of_state i.1 (primes Once i.1) refl h.1.level, predicates_of_state ws is h.2)

  assumptions_usable : (ts : List Tree) (es : List Expr) → AreScoped ts → AreAssumptions σ ts es → AreUsable 0 false es
  assumptions_usable [] [] s h = tt
  assumptions_usable [] (e ∷ es) s h = absurd h
  assumptions_usable (t ∷ ts) [] s h = absurd h
  assumptions_usable (t ∷ ts) (e ∷ es) s h =
      let constant_fits = primes_fit Twice n 0 false tt e 0 e h.0.level ∙ expand_fits t σ n 0 scope e h.0.expanded in
      (usable 0 false e constant_fits (scoped_form t s.0 σ 0 forms e h.0.expanded) h.0.limits, assumptions_usable ts es s.1 h.1)

-- the formulas of the behaviour are well-formed
module _ (us : List UnitTree) (cs : List Statement) (known : IsWellScopedModule us) (σ : Scope) (forms : IsFormScope σ) where
  initial_form : (initial action : Tree) → IsBehaviour us cs σ initial action → (x : Expr) → expand initial σ 0 ≡ Some x → IsForm x
  initial_form initial action (inl h) x q = named_form h.init_name σ 0 forms x (rw h.initial_is at q)
  initial_form initial action (inr h) x q = specified_initial us (items_of cs) known (length (variables_of us)) h.name initial action σ h.form σ 0 forms x q

  action_form : (initial action : Tree) → IsBehaviour us cs σ initial action → (x : Expr) → expand action σ 0 ≡ Some x → IsForm x
  action_form initial action (inl h) x q = named_form h.next_name σ 0 forms x (rw h.action_is at q)
  action_form initial action (inr h) x q = scoped_form action (specified_action us (items_of cs) known (length (variables_of us)) h.name initial action σ h.form) σ 0 forms x q

-- the parts of a model can be evaluated
pub sound : (us : List UnitTree) (cs : List Statement) (m : ModelTree) → IsModel us cs m → IsSound m
sound us cs m h =
    let n = h.variables in
    let v = length (variables_of us) in
    let σ = h.scope in
    let is_global = sym (model_scope us cs m h (global us (items_of cs)) (has_scope us (items_of cs) (in_order us cs m h))) in
    let scope : FitsScope v 0 σ = subst (λ ρ. FitsScope v 0 ρ) is_global (global_fits us (items_of cs)) in
    let forms : IsFormScope σ = subst (λ ρ. IsFormScope ρ) is_global (global_form us (items_of cs) h.known) in
    let before = initial_form us cs h.known σ forms h.initial h.action h.behaviour h.init.before h.init.meaning in
    let like = primes_form Once h.init.before m.init h.init.primed in
    let init_form : IsForm m.init = (like.0 ∙ before.0, like.1 ∙ before.1) in
    let next_form = action_form us cs h.known σ forms h.initial h.action h.behaviour m.next h.next.meaning in
    let init : fits m.init 0 v false ≡ true = primes_fit Once v v false refl h.init.before 0 m.init h.init.primed ∙ expand_fits h.initial σ v 0 scope h.init.before h.init.meaning in
    record {
      assumptions = assumptions_usable v σ scope forms (assumptions_of us) m.assumptions (assumptions_scoped us h.known) h.assumptions;
      init = rw n (usable v false m.init init init_form h.init.limits);
      next = rw n (usable v true m.next (expand_fits h.action σ v 0 scope m.next h.next.meaning) next_form h.next.limits);
      invariants = rw n (predicates_usable v σ scope forms (invariants_named cs) m.invariants h.invariants);
      invariants_of_state = predicates_of_state v σ scope forms (invariants_named cs) m.invariants h.invariants;
      constraints = rw n (predicates_usable v σ scope forms (constraints_named cs) m.constraints h.constraints);
      constraints_of_state = predicates_of_state v σ scope forms (constraints_named cs) m.constraints h.constraints;
    }
