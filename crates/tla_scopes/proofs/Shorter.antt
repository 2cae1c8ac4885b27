-- A body that comes to a part of it.
use Rattle.std.proofs.Common.{◌≡◌, ℕ, zero, suc, ◌+◌, ◌<◌, true, List, [], ◌∷◌, length, get_or, drop, map, refl, ap, sym, ◌∙◌, arith, Option, Some, None, IfSome}
use Rattle.std.specs.Str.{bytes_eq}
use Rattle.tla_core.specs.declared.fault.Place.{Place}
use Rattle.tla_tree.specs.declared.tree.Expr as syntax
use Rattle.tla_tree.specs.declared.word.Written.{Written}
use Rattle.tla_tree.specs.Tree as t
use Rattle.tla_tree.specs.View.{view}
use Rattle.tla_scopes.specs.Maybe.{◌>>=◌}
use Rattle.tla_scopes.specs.Places.{Name, place_of}
use Rattle.tla_scopes.specs.Meanings.{Scope, Argument, Meaning, with_name, parameter, with_parameters, operator}
use Rattle.tla_scopes.specs.Expand.{expand}
use Rattle.tla_scopes.specs.Private.Parameters.{IsAbsent, IsLast}
use Rattle.tla_scopes.specs.Scopes.{arguments_in}
use Rattle.tla_scopes.proofs.Steps.{expand_call}

pub last_at : (ws : List Written) (i : ℕ) (w : Written) (x : Name) → i < length ws → w ≡ get_or ws i w → bytes_eq w.word x ≡ true → IsAbsent x (drop (i + 1) ws) → IsLast x ws i
last_at [] i w x h g e a = absurd (omega arith)
last_at (v ∷ ws) zero w x h g e a = ((rw g at e), a)
last_at (v ∷ ws) (suc i) w x h g e a =
    let p : suc i + 1 ≡ suc (i + 1) = omega arith in
    last_at ws i w x (omega arith) g e (rw p at a)

-- a name that is no parameter means what it did
pub absent_same : (ws : List Written) (args : List Argument) (σ τ : Scope) (x : Name) → IsAbsent x ws → with_parameters ws args σ ≡ Some τ → τ x ≡ σ x
absent_same [] [] σ τ x a h = let e : σ ≡ τ = cc in ap (λ (ρ : Scope). ρ x) (sym e)
absent_same [] (b ∷ args) σ τ x a h = cc
absent_same (w ∷ ws) [] σ τ x a h = cc
absent_same (w ∷ ws) (b ∷ args) σ τ x a h = absent_same ws args (with_name w.word (parameter b) σ) τ x a.1 h ∙ rw a.0 refl

pub call_same : (ws : List Written) (args : List Argument) (σ τ : Scope) (w : Written) (es : List syntax.Expr) (b g : syntax.Expr) (d : ℕ) → view b ≡ t.Call w (t.trees (map view es)) → IsAbsent w.word ws
    → with_parameters ws args σ ≡ Some τ → ((ρ : Scope) (p : Place) (k : ℕ) → σ w.word p (arguments_in es ρ) k ≡ expand (view g) ρ k) → expand (view g) τ d ≡ expand (view b) τ d
call_same ws args σ τ w es b g d v a h c =
    let called = ap (λ (f : Argument). f d) (expand_call w es τ) in
    let known = ap (λ (m : Meaning). m (place_of w.place) (arguments_in es τ) d) (absent_same ws args σ τ w.word a h) in
    sym (rw v (called ∙ known ∙ c τ (place_of w.place) d))

pub some_map : {A : Type 0} (o : Option A) (P Q : A → Type 0) → ((x : A) → P x → Q x) → IfSome o P → IfSome o Q
some_map None P Q f h = tt
some_map (Some x) P Q f h = f x h

then_same : {A B : Type 0} (o : Option A) (f g : A → Option B) → ((x : A) → o ≡ Some x → f x ≡ g x) → (o >>= f) ≡ (o >>= g)
then_same None f g h = refl
then_same (Some x) f g h = h x refl

-- bodies that are the same whatever the parameters stand for
pub operator_same : (ws : List Written) (σ : Scope) (f g : Scope → Argument) → ((args : List Argument) (τ : Scope) (d : ℕ) → with_parameters ws args σ ≡ Some τ → f τ d ≡ g τ d) → operator ws f σ ≡ operator ws g σ
operator_same ws σ f g h = (λ i p args d. then_same (with_parameters ws args σ) (λ τ. f τ d) (λ τ. g τ d) (λ τ. h args τ d) i)
