-- Arguments put in for parameters.
use Rattle.std.proofs.Common.{◌≡◌, ℕ, suc, ◌+◌, ◌≤◌, ◌<◌, List, [], ◌∷◌, ◌++◌, length, get_or, drop, append-nil, refl, ap, sym, ◌∙◌, arith, None, Bor, append_assoc, add-one, drop-cons, length-append}
use Rattle.std.proofs.lemmas.List.{length-map}
use Rattle.tla_tree.specs.declared.tree.Expr as syntax
use Rattle.tla_tree.specs.declared.word.Written.{Written}
use Rattle.tla_scopes.specs.Places.{Name}
use Rattle.tla_scopes.specs.declared.arena.Entry.{Entry}
use Rattle.tla_scopes.specs.declared.arena.What.TheVariants.{Definition}
use Rattle.tla_core.specs.declared.fault.Place.{Place}
use Rattle.tla_tree.specs.View.{view}
use Rattle.tla_scopes.specs.Meanings.{Scope, Argument, Meaning, with_parameters, with_name, parameter}
use Rattle.tla_scopes.specs.Expand.{expand}
use Rattle.tla_scopes.specs.Scopes.{scope_at, meaning_of, Extends, arguments_in}
use Rattle.tla_scopes.specs.Costs.{cost, costs_at, costs_in, with_cost, with_costs}
use Rattle.tla_scopes.proofs.Links.{scope_keep}
use Rattle.tla_scopes.proofs.EntryCosts.{costs_keep}

pub bind_more : (fns es new : List Entry) (params : List Written) (args : List syntax.Expr) (i at s scope : ℕ) (w : Written) (x : Name) (a : syntax.Expr)
    → i < length params → length params ≡ length args → w ≡ get_or params i w → x ≡ w.word → a ≡ get_or args i a → Extends es fns → scope ≤ length fns
    → scope_at new s ≡ with_name x (parameter (expand (view a) (scope_at es scope))) (scope_at es at)
    → with_parameters (drop (i + 1) params) (arguments_in (drop (i + 1) args) (scope_at fns scope)) (scope_at new s)
    ≡ with_parameters (drop i params) (arguments_in (drop i args) (scope_at fns scope)) (scope_at es at)
bind_more fns es new params args i at s scope w x a h len hw hx ht ext b hs =
    let k : scope_at es scope ≡ scope_at fns scope = rw ext.1 (scope_keep fns ext.0 scope b) in
    let h2 : i < length args = omega arith in
    let p1 : drop i params ≡ w ∷ drop (suc i) params = drop-cons params i w h ∙ ap (λ (y : Written). y ∷ drop (suc i) params) (sym hw) in
    let p2 : drop i args ≡ a ∷ drop (suc i) args = drop-cons args i a h2 ∙ ap (λ (y : syntax.Expr). y ∷ drop (suc i) args) (sym ht) in
    let p3 : i + 1 ≡ suc i = add-one i in
    rw (p3, p1, p2, hs, hx, k) refl

pub costs_more : (fns es new : List Entry) (params : List Written) (args : List syntax.Expr) (i at s scope : ℕ) (w : Written) (x : Name) (a : syntax.Expr)
    → i < length params → length params ≡ length args → w ≡ get_or params i w → x ≡ w.word → a ≡ get_or args i a → Extends es fns → scope ≤ length fns
    → costs_at new s ≡ with_cost x (λ ns. cost (view a) (costs_at es scope)) (costs_at es at)
    → with_costs (drop (i + 1) params) (costs_in (drop (i + 1) args) (costs_at fns scope)) (costs_at new s)
    ≡ with_costs (drop i params) (costs_in (drop i args) (costs_at fns scope)) (costs_at es at)
costs_more fns es new params args i at s scope w x a h len hw hx ht ext b hs =
    let k : costs_at es scope ≡ costs_at fns scope = rw ext.1 (costs_keep fns ext.0 scope b) in
    let h2 : i < length args = omega arith in
    let p1 : drop i params ≡ w ∷ drop (suc i) params = drop-cons params i w h ∙ ap (λ (y : Written). y ∷ drop (suc i) params) (sym hw) in
    let p2 : drop i args ≡ a ∷ drop (suc i) args = drop-cons args i a h2 ∙ ap (λ (y : syntax.Expr). y ∷ drop (suc i) args) (sym ht) in
    let p3 : i + 1 ≡ suc i = add-one i in
    rw (p3, p1, p2, hs, hx, k) refl

pub extends_more : (fns es new : List Entry) (e : Entry) → Extends es fns → new ≡ es ++ e ∷ [] → Extends new fns
extends_more fns es new e ext h = (ext.0 ++ e ∷ [], h ∙ rw ext.1 (append_assoc fns ext.0 (e ∷ [])))

pub extends_trans : (a b c : List Entry) → Extends b a → Extends c b → Extends c a
extends_trans a b c h k = (h.0 ++ k.0, k.1 ∙ rw h.1 (append_assoc a h.0 k.0))

pub extends_length : (a b : List Entry) → Extends b a → length a ≤ length b
extends_length a b h = rw h.1 (omega (arith, length-append a h.0))

pub scope_extends : (a b : List Entry) (i : ℕ) → Extends b a → i ≤ length a → scope_at b i ≡ scope_at a i
scope_extends a b i h k = rw h.1 (scope_keep a h.0 i k)

pub extends_self : (a : List Entry) → Extends a a
extends_self a = ([], sym (append-nil a))

parameters_mismatch : (xs : List Written) (args : List Argument) (σ : Scope) → (length xs ≡ length args → ⊥) → with_parameters xs args σ ≡ None
parameters_mismatch [] [] σ h = absurd (h refl)
parameters_mismatch [] (a ∷ args) σ h = refl
parameters_mismatch (x ∷ xs) [] σ h = refl
parameters_mismatch (x ∷ xs) (a ∷ args) σ h = parameters_mismatch xs args (with_name x.word (parameter a) σ) (λ e. h (ap suc e))

-- an operator with another number of arguments
pub mismatch : (at : ℕ → Scope) (args : List syntax.Expr) (σ : Scope) (p : Place) (d : ℕ) (m : Meaning) (e : Entry) (xs : Bor (List Written)) (body : Bor syntax.Expr) (home : ℕ)
    → m ≡ meaning_of at e.what → e.what ≡ Definition xs body home → (length xs.now ≡ length args → ⊥) → m p (arguments_in args σ) d ≡ None
mismatch at args σ p d m e xs body home h w n =
    let q : length (arguments_in args σ) ≡ length args = length-map args (λ (t : syntax.Expr). expand (view t) σ) in
    rw (h, w, parameters_mismatch xs.now (arguments_in args σ) (at home) (λ z. n (z ∙ q))) refl
