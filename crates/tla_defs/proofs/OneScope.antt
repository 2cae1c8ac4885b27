-- A module whose items lead to no name of their own has one scope, which the passes make.
use Rattle.std.proofs.Common.{◌≡◌, ◌∙◌, ℕ, zero, suc, List, [], ◌∷◌, refl, sym, ap, None}
use Rattle.tla_tree.specs.Units.{UnitTree}
use Rattle.tla_config.specs.Statements.{Statement, Item, Value, Replaces, items_of}
use Rattle.tla_scopes.specs.Meanings.{Scope, standard}
use Rattle.tla_names.specs.Misuses.{misuse}
use Rattle.tla_names.proofs.WellScopedModule.{well_scoped_module}
use Rattle.tla_items.specs.Items.{replaceable_of, nameable_of, items_misused}
use Rattle.tla_items.specs.References.{references}
use Rattle.tla_items.specs.Cycles.{AreStraight}
use Rattle.tla_model.specs.ModelTree.{ModelTree}
use Rattle.tla_defs.specs.Global.{meant, IsScopeOf}
use Rattle.tla_defs.specs.Model.{IsModel}
use Rattle.tla_defs.specs.Laws.{AreInOrder}
use Rattle.tla_defs.specs.Private.Passes.{raised, global}
use Rattle.tla_defs.proofs.Straight.{after, settled, passes_of}

-- a pass before others, or after them
turned_round : (us : List UnitTree) (is : List Item) (n : ℕ) (ρ : Scope) → after us is n (meant us is ρ) ≡ meant us is (after us is n ρ)
turned_round us is zero ρ = refl
turned_round us is (suc n) ρ = ap (λ σ. meant us is σ) (turned_round us is n ρ)

raised_after : (us : List UnitTree) (is js : List Item) (ρ : Scope) → raised us is js ρ ≡ after us is (passes_of js) ρ
raised_after us is [] ρ = refl
raised_after us is (Value w v ∷ js) ρ = raised_after us is js ρ
raised_after us is (Replaces w op ∷ js) ρ = raised_after us is js (meant us is ρ) ∙ turned_round us is (passes_of js) ρ

global_after : (us : List UnitTree) (is : List Item) → global us is ≡ after us is (suc (passes_of is)) standard
global_after us is = raised_after us is is (meant us is standard) ∙ turned_round us is (passes_of is) standard

-- a scope of the module stays the same, however many passes are made
kept : (us : List UnitTree) (is : List Item) (σ : Scope) → IsScopeOf us is σ → (n : ℕ) → σ ≡ after us is n σ
kept us is σ h zero = refl
kept us is σ h (suc n) = h ∙ ap (λ ρ. meant us is ρ) (kept us is σ h n)

pub has_scope : (us : List UnitTree) (is : List Item) → AreInOrder us is → IsScopeOf us is (global us is)
has_scope us is o =
    let n = suc (passes_of is) in
    global_after us is ∙ settled us is ((well_scoped_module us).0 o.known) o.given o.straight standard (meant us is standard) ∙ turned_round us is n standard ∙ ap (λ ρ. meant us is ρ) (sym (global_after us is))

pub only_scope : (us : List UnitTree) (is : List Item) (σ τ : Scope) → AreInOrder us is → IsScopeOf us is σ → IsScopeOf us is τ → σ ≡ τ
only_scope us is σ τ o h k = kept us is σ h (suc (passes_of is)) ∙ settled us is ((well_scoped_module us).0 o.known) o.given o.straight σ τ ∙ sym (kept us is τ k (suc (passes_of is)))

pub in_order : (us : List UnitTree) (cs : List Statement) (m : ModelTree) → IsModel us cs m → AreInOrder us (items_of cs)
in_order us cs m h = record { known = h.known; given = h.given; straight = h.straight }

-- the scope of a model is the module's
pub model_scope : (us : List UnitTree) (cs : List Statement) (m : ModelTree) (h : IsModel us cs m) (σ : Scope) → IsScopeOf us (items_of cs) σ → h.scope ≡ σ
model_scope us cs m h σ k = only_scope us (items_of cs) h.scope σ (in_order us cs m h) h.is_scope k

-- the scope that the code finds is the module's
pub scope_found : (us : List UnitTree) (cs : List Statement) (σ : Scope) → σ ≡ global us (items_of cs) → misuse us ≡ None → items_misused (replaceable_of us) (nameable_of us) [] (items_of cs) ≡ None
    → AreStraight (references us (items_of cs)) (items_of cs) → IsScopeOf us (items_of cs) σ
scope_found us cs σ at known given straight =
    let found = has_scope us (items_of cs) (record { known = (well_scoped_module us).1 known; given = given; straight = straight }) in
    at ∙ found ∙ ap (λ ρ. meant us (items_of cs) ρ) (sym at)
