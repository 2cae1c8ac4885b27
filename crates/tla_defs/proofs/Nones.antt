-- Where there is a model, no step refuses.
use Rattle.std.proofs.Common.{◌≡◌, refl, sym, ap, inl, inr, ℕ, length, List, [], ◌∷◌, Some, None, Result, Ok, Err, subst}
use Rattle.tla_core.specs.Expr.{Expr}
use Rattle.tla_lex.specs.declared.token.Place.{Place}
use Rattle.tla_tree.specs.declared.word.Written.{Written}
use Rattle.tla_tree.specs.Tree.{Tree}
use Rattle.tla_tree.specs.Units.{UnitTree}
use Rattle.tla_config.specs.declared.error.DefsCode.TheVariants as c
use Rattle.tla_config.specs.declared.error.DefsError.{DefsError}
use Rattle.tla_config.specs.declared.error.Source.TheVariants as source
use Rattle.tla_config.specs.Names.{Name}
use Rattle.tla_config.specs.Statements.{Statement, Item, items_of}
use Rattle.tla_config.specs.View.{ConfigTree}
use Rattle.tla_scopes.specs.Meanings.{Scope}
use Rattle.tla_model.specs.ModelTree.{ModelTree}
use Rattle.tla_defs.specs.Private.Formulas.{LacksPredicate, LacksAssumption}
use Rattle.tla_defs.specs.Global.{IsScopeOf}
use Rattle.tla_names.specs.Constants.{unvalued}
use Rattle.tla_names.specs.Misuses.{misuse, variables_of}
use Rattle.tla_items.specs.Items.{definitions_of, replaceable_of, nameable_of, replaced_names, items_misused}
use Rattle.tla_items.specs.References.{Reference, references, IsCircular}
use Rattle.tla_items.specs.Cycles.{AreStraight, IsFirstCycle}
use Rattle.tla_formulas.specs.Formulas.{IsInitial, IsAction}
use Rattle.tla_defs.specs.Model.{IsModel, IsBehaviour, AreStatePredicates, AreAssumptions, assumptions_of, invariants_named, constraints_named}
use Rattle.tla_names.specs.Named.{names_misused}
use Rattle.tla_defs.specs.Refused.{Behaviour, Named, Specified, refused, behaviour, NoForm, HasTooMany, IsLast, IsRefusal}
use Rattle.tla_defs.specs.Private.Specified.{form_refused, HasMany, MayBeLast, NoneMeant}
use Rattle.tla_names.specs.Refusal.{refusal_at, refusal_for}
use Rattle.tla_items.specs.Refusal.{items_refused, IsOfCycle}
use Rattle.tla_defs.proofs.Behaviours.{behaviour_found}
use Rattle.tla_names.proofs.WellScopedModule.{well_scoped_module, named_statements, assigned_constants}
use Rattle.tla_defs.proofs.OneScope.{model_scope}
use Rattle.tla_defs.proofs.Unique.{one_behaviour}

-- no step refuses what names a model
pub no_refusal : (us : List UnitTree) (config : ConfigTree) (m : ModelTree) → IsModel us config.statements m → refused us config ≡ None
no_refusal us config m h =
    let f = behaviour_found us config.statements config.end h.scope h.initial h.action h.behaviour in
    rw ((well_scoped_module us).0 h.known, h.given, (assigned_constants (replaced_names (items_of config.statements)) us).0 h.valued, f.1, (named_statements (definitions_of us) config.statements).0 h.named) refl

-- where the steps that look at names refuse nothing, and no item leads back to its name, a refusal is one of the last
-- steps
pub last_refusal : (us : List UnitTree) (config : ConfigTree) (is : List Item) (b : Behaviour) (e : DefsError) → misuse us ≡ None → is ≡ items_of config.statements
    → items_misused (replaceable_of us) (nameable_of us) [] is ≡ None → unvalued (replaced_names is) us ≡ None → behaviour config.statements config.end None None ≡ Ok b
    → names_misused (definitions_of us) config.statements ≡ None → AreStraight (references us is) is → IsLast us config.statements (Ok b) e → IsRefusal us config e
last_refusal us config is b e known at given valued behaves named straight last =
    let g = rw at at given in
    let v = rw at at valued in
    let s = rw at at straight in
    let none : refused us config ≡ None = rw (known, g, v, behaves, named) refl in
    rw (none, behaves) (inr (s, last))

-- the last steps are those of the same statements
pub last_same : (us : List UnitTree) (cs ds : List Statement) (b : Result Behaviour Place) (e : DefsError) → cs ≡ ds → IsLast us cs b e → IsLast us ds b e
last_same us cs ds b e same last = subst (λ xs. IsLast us xs b e) same last

-- the refusal of a meaning
pub meaning_refused : (us : List UnitTree) (cs : List Statement) (is : List Item) (σ : Scope) (n : ℕ) (b : Behaviour) (e : DefsError) → is ≡ items_of cs → IsScopeOf us (items_of cs) σ → n ≡ length (variables_of us)
    → MayBeLast (form_refused b) (HasMany us is b) e → (e.code ≡ c.SpecificationForm → NoneMeant us is σ n b) → IsLast us cs (Ok b) e
meaning_refused us cs is σ n (Named i a) e given at counted (inl q) none = let z : ⊥ = cc in absurd z
meaning_refused us cs is σ n (Named i a) e given at counted (inr (l, many)) none = absurd many
meaning_refused us cs is σ n (Specified p w) e given at counted (inr (l, many)) none = (σ, at, inl (inr (l, subst (λ js. HasTooMany us js w) given many)))
meaning_refused us cs is σ n (Specified p w) e given at counted (inl q) none = (σ, at, inl (inl (same, no_form)))
  where
    same : refusal_at c.SpecificationForm source.Configuration p ≡ e
    same = cc

    no_form : NoForm us (items_of cs) σ (length (variables_of us)) w
    no_form = subst (λ js. NoForm us js σ (length (variables_of us)) w) given (subst (λ k. NoForm us is σ k w) counted (none (ap (λ (d : DefsError). d.code) (sym same))))

-- where the steps before them refuse nothing, the names of the configuration are what is refused
pub name_refusal : (us : List UnitTree) (config : ConfigTree) (is : List Item) (b : Behaviour) (e : DefsError) → misuse us ≡ None → is ≡ items_of config.statements
    → items_misused (replaceable_of us) (nameable_of us) [] is ≡ None → unvalued (replaced_names is) us ≡ None → behaviour config.statements config.end None None ≡ Ok b
    → refusal_for source.Configuration (names_misused (definitions_of us) config.statements) ≡ Some e → IsRefusal us config e
name_refusal us config is b e known at given valued behaves named =
    let g = rw at at given in
    let v = rw at at valued in
    let some : refused us config ≡ Some e = rw (known, g, v, behaves) named in
    rw some refl

-- where the steps that look at names refuse nothing, an item that leads back to its name is what is refused
pub cycle_refusal : (us : List UnitTree) (config : ConfigTree) (is : List Item) (b : Behaviour) (e : DefsError) → misuse us ≡ None → is ≡ items_of config.statements
    → items_misused (replaceable_of us) (nameable_of us) [] is ≡ None → unvalued (replaced_names is) us ≡ None → behaviour config.statements config.end None None ≡ Ok b
    → names_misused (definitions_of us) config.statements ≡ None → IsOfCycle (references us is) is e → IsRefusal us config e
cycle_refusal us config is b e known at given valued behaves named cycle =
    let g = rw at at given in
    let v = rw at at valued in
    let c = rw at at cycle in
    let none : refused us config ≡ None = rw (known, g, v, behaves, named) refl in
    rw none (inl c)

pub no_behaviour : (us : List UnitTree) (config : ConfigTree) (p : Place) → behaviour config.statements config.end None None ≡ Err p → (m : ModelTree) → IsModel us config.statements m → ⊥
no_behaviour us config p q m h =
    let f = behaviour_found us config.statements config.end h.scope h.initial h.action h.behaviour in
    let g = f.1 in
    let z : ⊥ = cc in
    z

pub no_module : (us : List UnitTree) (cs : List Statement) (e : DefsError) → refusal_for source.Module (misuse us) ≡ Some e → (m : ModelTree) → IsModel us cs m → ⊥
no_module us cs e p m h =
    let q = rw ((well_scoped_module us).0 h.known) at p in
    let z : ⊥ = cc in
    z

pub no_items : (us : List UnitTree) (cs : List Statement) (e : DefsError) → items_refused us (items_of cs) ≡ Some e → (m : ModelTree) → IsModel us cs m → ⊥
no_items us cs e p m h =
    let q = rw (h.given, (assigned_constants (replaced_names (items_of cs)) us).0 h.valued) at p in
    let z : ⊥ = cc in
    z

pub no_names : (us : List UnitTree) (cs : List Statement) (e : DefsError) → refusal_for source.Configuration (names_misused (definitions_of us) cs) ≡ Some e → (m : ModelTree) → IsModel us cs m → ⊥
no_names us cs e p m h =
    let q = rw ((named_statements (definitions_of us) cs).0 h.named) at p in
    let z : ⊥ = cc in
    z

-- the first cycle is one
cycle_stops : (ls : List Reference) (is : List Item) (w : Written) → IsFirstCycle ls is w → AreStraight ls is → ⊥
cycle_stops ls [] w c h = c
cycle_stops ls (i ∷ is) w (inl c) h = h.0 (subst (λ (v : Written). IsCircular ls v.word) (sym c.0) c.1)
cycle_stops ls (i ∷ is) w (inr c) h = cycle_stops ls is w c.1 h.1

pub no_cycle : (us : List UnitTree) (cs : List Statement) (e : DefsError) → IsOfCycle (references us (items_of cs)) (items_of cs) e → (m : ModelTree) → IsModel us cs m → ⊥
no_cycle us cs e c m h = cycle_stops (references us (items_of cs)) (items_of cs) c.name c.first h.straight

-- a name that is no state predicate stands for no list of them
pub lacks_predicate : (σ : Scope) (ws : List Written) (is : List (Name × Expr)) → LacksPredicate σ ws → AreStatePredicates σ ws is → ⊥
lacks_predicate σ [] is l h = l
lacks_predicate σ (w ∷ ws) [] l h = h
lacks_predicate σ (w ∷ ws) (i ∷ is) (inl l) h = l i.1 h.1
lacks_predicate σ (w ∷ ws) (i ∷ is) (inr l) h = lacks_predicate σ ws is l h.2

pub lacks_assumption : (σ : Scope) (ts : List Tree) (es : List Expr) → LacksAssumption σ ts → AreAssumptions σ ts es → ⊥
lacks_assumption σ [] es l h = l
lacks_assumption σ (t ∷ ts) [] l h = h
lacks_assumption σ (t ∷ ts) (e ∷ es) (inl l) h = l e h.0
lacks_assumption σ (t ∷ ts) (e ∷ es) (inr l) h = lacks_assumption σ ts es l h.1

-- without the formulas that the behaviour names there is no model
pub no_init : (us : List UnitTree) (cs : List Statement) (σ : Scope) (i a : Tree) → IsScopeOf us (items_of cs) σ → IsBehaviour us cs σ i a → ((e : Expr) → IsInitial σ i e → ⊥) → (m : ModelTree) → IsModel us cs m → ⊥
no_init us cs σ i a at p none m h =
    let here = model_scope us cs m h σ at in
    let same = one_behaviour us cs σ h.initial h.action i a (subst (λ ρ. IsBehaviour us cs ρ h.initial h.action) here h.behaviour) p in
    none m.init (subst (λ v. IsInitial σ v m.init) same.0 (subst (λ ρ. IsInitial ρ h.initial m.init) here h.init))

pub no_next : (us : List UnitTree) (cs : List Statement) (σ : Scope) (i a : Tree) → IsScopeOf us (items_of cs) σ → IsBehaviour us cs σ i a → ((e : Expr) → IsAction σ a e → ⊥) → (m : ModelTree) → IsModel us cs m → ⊥
no_next us cs σ i a at p none m h =
    let here = model_scope us cs m h σ at in
    let same = one_behaviour us cs σ h.initial h.action i a (subst (λ ρ. IsBehaviour us cs ρ h.initial h.action) here h.behaviour) p in
    none m.next (subst (λ v. IsAction σ v m.next) same.1 (subst (λ ρ. IsAction ρ h.action m.next) here h.next))

pub no_invariants : (us : List UnitTree) (cs : List Statement) (σ : Scope) → IsScopeOf us (items_of cs) σ → LacksPredicate σ (invariants_named cs) → (m : ModelTree) → IsModel us cs m → ⊥
no_invariants us cs σ at l m h = lacks_predicate σ (invariants_named cs) m.invariants l (subst (λ ρ. AreStatePredicates ρ (invariants_named cs) m.invariants) (model_scope us cs m h σ at) h.invariants)

pub no_constraints : (us : List UnitTree) (cs : List Statement) (σ : Scope) → IsScopeOf us (items_of cs) σ → LacksPredicate σ (constraints_named cs) → (m : ModelTree) → IsModel us cs m → ⊥
no_constraints us cs σ at l m h = lacks_predicate σ (constraints_named cs) m.constraints l (subst (λ ρ. AreStatePredicates ρ (constraints_named cs) m.constraints) (model_scope us cs m h σ at) h.constraints)

pub no_assumptions : (us : List UnitTree) (cs : List Statement) (σ : Scope) → IsScopeOf us (items_of cs) σ → LacksAssumption σ (assumptions_of us) → (m : ModelTree) → IsModel us cs m → ⊥
no_assumptions us cs σ at l m h = lacks_assumption σ (assumptions_of us) m.assumptions l (subst (λ ρ. AreAssumptions ρ (assumptions_of us) m.assumptions) (model_scope us cs m h σ at) h.assumptions)
