-- Expansion, form by form.
use Rattle.std.proofs.Common.{◌≡◌, ◌<◌, ℕ, suc, ◌+◌, List, [], ◌∷◌, map, length, get_or, drop, refl, ap, sym, ◌∙◌, add-one, drop-cons, Option, Some, None, Result, Ok, Err, IfOk, IfErr}
use Rattle.tla_lex.specs.declared.token.Place as text
use Rattle.tla_tree.specs.declared.tree.Expr as syntax
use Rattle.tla_tree.specs.declared.tree.Definition as defining
use Rattle.tla_tree.specs.declared.tree.Bullet.{Bullet}
use Rattle.tla_tree.specs.declared.tree.Bullet.TheVariants as bullet
use Rattle.tla_tree.specs.declared.tree.Brackets.{Brackets}
use Rattle.tla_tree.specs.declared.tree.Brackets.TheVariants as brackets
use Rattle.tla_tree.specs.Tree as t
use Rattle.tla_tree.specs.Tree.{Trees, trees}
use Rattle.tla_tree.specs.View.{view, definition_view}
use Rattle.tla_scopes.specs.declared.primes.Primes.{Primes}
use Rattle.tla_scopes.specs.declared.failure.Failure.{Failure}
use Rattle.tla_scopes.specs.declared.failure.Failure.TheVariants.{NoExpansion, TooLarge, Memory}
use Rattle.tla_core.specs.Expr.{Expr}
use Rattle.tla_scopes.specs.Places.{place_of}
use Rattle.tla_scopes.specs.Nodes.{many}
use Rattle.tla_scopes.specs.Forms.{of_brackets, of_bullet}
use Rattle.tla_tree.specs.declared.word.Written.{Written}
use Rattle.tla_scopes.specs.Maybe.{◌>>=◌}
use Rattle.tla_scopes.specs.Primes.{primes, one_more}
use Rattle.tla_scopes.specs.declared.primes.Primes.TheVariants.{Once}
use Rattle.tla_scopes.specs.Meanings.{Scope, Argument}
use Rattle.tla_scopes.specs.Expand.{expand, expand_each, arguments, definition_in, definitions_in}
use Rattle.tla_scopes.specs.Scopes.{arguments_in}
use Rattle.tla_scopes.specs.Reductions.{Explains}
use Rattle.tla_scopes.specs.Primes.{with_primes}
use Rattle.tla_scopes.proofs.Primed.{once}

pub arguments_row : (es : List syntax.Expr) (σ : Scope) → arguments (trees (map view es)) σ ≡ arguments_in es σ
arguments_row [] σ = refl
arguments_row (e ∷ es) σ = ap (λ (x : List Argument). expand (view e) σ ∷ x) (arguments_row es σ)

pub shown_once : (k : Primes) (o : Option Expr) → with_primes k (o >>= primes Once) ≡ with_primes (one_more k) o
shown_once k None = refl
shown_once k (Some e) = once k e

-- a failure that explains one expression explains an equal one, with primes too
pub explains_by : (e : Failure) (k : Primes) (f g : Argument) → ((d : ℕ) → g d ≡ with_primes k (f d)) → Explains e f → Explains e g
explains_by (NoExpansion p) k f g h x = λ d. h d ∙ ap (λ (o : Option Expr). with_primes k o) (x d)
explains_by TooLarge k f g h x = absurd x
explains_by Memory k f g h x = tt

pub expand_listing : (p : text.Place) (b : Brackets) (es : Trees) (σ : Scope) (d : ℕ) → expand (t.Listing p b es) σ d ≡ (expand_each es σ d >>= λ xs. Some (many (of_brackets b) (place_of p) xs))
expand_listing p brackets.Set es σ d = refl
expand_listing p brackets.Tuple es σ d = refl

pub expand_junction : (p : text.Place) (b : Bullet) (es : Trees) (σ : Scope) (d : ℕ) → expand (t.Junction p b es) σ d ≡ (expand_each es σ d >>= λ xs. Some (many (of_bullet b) (place_of p) xs))
expand_junction p bullet.And es σ d = refl
expand_junction p bullet.Or es σ d = refl

pub define_more : (old new : Scope) (ds : List defining.Definition) (i : ℕ) (def : defining.Definition) → i < length ds → def ≡ get_or ds i def → new ≡ definition_in (definition_view def) old
    → definitions_in (t.definitions (map definition_view (drop i ds))) old ≡ definitions_in (t.definitions (map definition_view (drop (i + 1) ds))) new
define_more old new ds i def h g e =
    let p : drop i ds ≡ def ∷ drop (suc i) ds = drop-cons ds i def h ∙ ap (λ (y : defining.Definition). y ∷ drop (suc i) ds) (sym g) in
    let q : i + 1 ≡ suc i = add-one i in
    rw (p, q, e) refl

pub expand_call : (w : Written) (es : List syntax.Expr) (σ : Scope) → expand (t.Call w (trees (map view es))) σ ≡ (λ (d : ℕ). σ w.word (place_of w.place) (arguments_in es σ) d)
expand_call w es σ = ap (λ (args : List Argument). (λ (d : ℕ). σ w.word (place_of w.place) args d)) (arguments_row es σ)

pub if_fails : {A : Type 0} {P Q : Failure → Type 0} (r : Result A Failure) → IfErr r P → ((f : Failure) → P f → Q f) → IfErr r Q
if_fails (Ok x) h f = tt
if_fails (Err e) h f = f e h

pub if_made : {A : Type 0} {P Q : A → Type 0} (r : Result A Failure) → IfOk r P → ((x : A) → P x → Q x) → IfOk r Q
if_made (Ok x) h f = f x h
if_made (Err e) h f = tt
