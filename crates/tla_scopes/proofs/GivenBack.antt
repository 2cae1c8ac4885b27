-- Arguments that are given back.
use Rattle.std.proofs.Common.{◌≡◌, ℕ, zero, suc, ◌<◌, ◌≤◌, true, false, List, [], ◌∷◌, length, get_or, refl, ap, sym, ◌∙◌, arith, Option, Some, None, if◌then◌else◌}
use Rattle.tla_core.specs.declared.fault.Place.{Place}
use Rattle.tla_core.specs.Expr.{Expr}
use Rattle.tla_tree.specs.declared.tree.Expr as syntax
use Rattle.tla_tree.specs.declared.word.Written.{Written}
use Rattle.tla_tree.specs.View.{view}
use Rattle.tla_scopes.specs.declared.arena.Entry.{Entry}
use Rattle.tla_scopes.specs.declared.arena.Projection.{Projection}
use Rattle.tla_scopes.specs.declared.arena.What.TheVariants.{Gives}
use Rattle.tla_scopes.specs.declared.primes.Primes.{Primes}
use Rattle.tla_scopes.specs.declared.primes.Primes.TheVariants.{Never, Once, Twice}
use Rattle.tla_scopes.specs.Maybe.{◌>>=◌}
use Rattle.tla_scopes.specs.Places.{Name}
use Rattle.tla_scopes.specs.Primes.{primes, one_more, with_primes}
use Rattle.tla_scopes.specs.Meanings.{Scope, Argument, Meaning, with_name, parameter, with_parameters, operator}
use Rattle.tla_scopes.specs.Expand.{expand}
use Rattle.tla_scopes.specs.Arguments.{with_more, has_count, argument_at, given}
use Rattle.tla_scopes.specs.Private.LocalScopes.{with_count}
use Rattle.tla_scopes.specs.Private.Parameters.{IsLast}
use Rattle.tla_scopes.specs.Scopes.{meaning_of, arguments_in}
use Rattle.tla_scopes.proofs.Primed.{once, unprimed}
use Rattle.tla_scopes.proofs.Shorter.{absent_same}
use Rattle.tla_scopes.proofs.Steps.{shown_once}

-- no primes change nothing
pub shown_never : (o : Option Expr) → with_primes Never o ≡ o
shown_never None = refl
shown_never (Some e) = unprimed e

-- primes on primes
pub shown_more : (k j : Primes) (o : Option Expr) → with_primes k (with_primes j o) ≡ with_primes (with_more k j) o
shown_more k Never None = refl
shown_more k Once None = refl
shown_more k Twice None = refl
shown_more k Never (Some e) = ap (λ (o : Option Expr). with_primes k o) (unprimed e)
shown_more k Once (Some e) = once k e
shown_more k Twice (Some e) = ap (λ (o : Option Expr). with_primes k o) (sym (once Once e)) ∙ shown_once k (primes Once e) ∙ once (one_more k) e

counted : (ws : List Written) (args : List Argument) (σ : Scope) (f : Scope → Option Expr) (o : Option Expr) → ((τ : Scope) → with_parameters ws args σ ≡ Some τ → f τ ≡ o)
    → (with_parameters ws args σ >>= f) ≡ (if has_count (length ws) args then o else None)
counted [] [] σ f o h = h σ refl
counted [] (a ∷ args) σ f o h = refl
counted (w ∷ ws) [] σ f o h = refl
counted (w ∷ ws) (a ∷ args) σ f o h = counted ws args (with_name w.word (parameter a) σ) f o h

-- an operator whose body means this of its arguments
pub operator_counted : (ws : List Written) (body : Scope → Argument) (σ : Scope) (a : List Argument → Argument) → ((args : List Argument) (τ : Scope) (d : ℕ) → with_parameters ws args σ ≡ Some τ → body τ d ≡ a args d)
    → operator ws body σ ≡ with_count (length ws) a
operator_counted ws body σ a h = (λ i p args d. counted ws args σ (λ τ. body τ d) (a args d) (λ τ e. h args τ d e) i)

-- the last parameter of a name means its argument
pub last_argument : (ws : List Written) (args : List Argument) (σ τ : Scope) (x : Name) (i : ℕ) → IsLast x ws i → with_parameters ws args σ ≡ Some τ → τ x ≡ parameter (argument_at i args)
last_argument [] args σ τ x i l h = absurd l
last_argument (w ∷ ws) [] σ τ x i l h = cc
last_argument (w ∷ ws) (a ∷ args) σ τ x zero l h = absent_same ws args (with_name w.word (parameter a) σ) τ x l.1 h ∙ rw l.0 refl
last_argument (w ∷ ws) (a ∷ args) σ τ x (suc i) l h = last_argument ws args (with_name w.word (parameter a) σ) τ x i l h

-- the arguments of a use
pub count_row : (es : List syntax.Expr) (σ : Scope) → has_count (length es) (arguments_in es σ) ≡ true
count_row [] σ = refl
count_row (e ∷ es) σ = count_row es σ

count_other : (n : ℕ) (es : List syntax.Expr) (σ : Scope) → (n ≡ length es → ⊥) → has_count n (arguments_in es σ) ≡ false
count_other zero [] σ h = absurd (h refl)
count_other zero (e ∷ es) σ h = refl
count_other (suc n) [] σ h = refl
count_other (suc n) (e ∷ es) σ h = count_other n es σ (λ q. h (ap suc q))

argument_row : (es : List syntax.Expr) (i : ℕ) (e : syntax.Expr) (σ : Scope) → i < length es → e ≡ get_or es i e → argument_at i (arguments_in es σ) ≡ expand (view e) σ
argument_row [] i e σ b h = absurd (omega arith)
argument_row (f ∷ es) zero e σ b h = ap (λ (x : syntax.Expr). expand (view x) σ) (sym h)
argument_row (f ∷ es) (suc i) e σ b h = argument_row es i e σ (omega arith) h

argument_beyond : (es : List syntax.Expr) (i : ℕ) (σ : Scope) (d : ℕ) → length es ≤ i → argument_at i (arguments_in es σ) d ≡ None
argument_beyond [] i σ d h = refl
argument_beyond (e ∷ es) zero σ d h = absurd (omega arith)
argument_beyond (e ∷ es) (suc i) σ d h = argument_beyond es i σ d (omega arith)

pub use_given : (n : ℕ) (g : Projection) (es : List syntax.Expr) (e : syntax.Expr) → n ≡ length es → g.index < length es → e ≡ get_or es g.index e
    → (σ : Scope) (p : Place) (d : ℕ) → given n g p (arguments_in es σ) d ≡ with_primes g.primes (expand (view e) σ d)
use_given n g es e c b h = λ σ p d. rw (c, count_row es σ, argument_row es g.index e σ b h) refl

pub use_other : (n : ℕ) (g : Projection) (es : List syntax.Expr) → (n ≡ length es → ⊥) → (σ : Scope) (p : Place) (d : ℕ) → given n g p (arguments_in es σ) d ≡ None
use_other n g es h = λ σ p d. rw (count_other n es σ h) refl

pub use_beyond : (n : ℕ) (g : Projection) (es : List syntax.Expr) → n ≡ length es → length es ≤ g.index → (σ : Scope) (p : Place) (d : ℕ) → given n g p (arguments_in es σ) d ≡ None
use_beyond n g es c h = λ σ p d. rw (c, count_row es σ) (ap (λ (o : Option Expr). with_primes g.primes o) (argument_beyond es g.index σ d h))

-- the use of a definition that gives back an argument
pub use_gives : (k : Primes) (at : ℕ → Scope) (m : Meaning) (e : Entry) (n : ℕ) (g : Projection) (es : List syntax.Expr) (x : syntax.Expr) (σ : Scope) (p : Place) → m ≡ meaning_of at e.what → e.what ≡ Gives n g
    → ((ρ : Scope) (q : Place) (d : ℕ) → given n g q (arguments_in es ρ) d ≡ with_primes g.primes (expand (view x) ρ d)) → (d : ℕ) → with_primes k (m p (arguments_in es σ) d) ≡ with_primes (with_more k g.primes) (expand (view x) σ d)
use_gives k at m e n g es x σ p h w c = λ d. rw (h, w) (ap (λ (o : Option Expr). with_primes k o) (c σ p d) ∙ shown_more k g.primes (expand (view x) σ d))

pub use_gives_none : (at : ℕ → Scope) (m : Meaning) (e : Entry) (n : ℕ) (g : Projection) (es : List syntax.Expr) (σ : Scope) (p : Place) → m ≡ meaning_of at e.what → e.what ≡ Gives n g
    → ((ρ : Scope) (q : Place) (d : ℕ) → given n g q (arguments_in es ρ) d ≡ None) → (d : ℕ) → m p (arguments_in es σ) d ≡ None
use_gives_none at m e n g es σ p h w c = λ d. rw (h, w) (c σ p d)

-- without primes
pub use_never : (at : ℕ → Scope) (m : Meaning) (e : Entry) (n : ℕ) (g : Projection) (es : List syntax.Expr) (x : syntax.Expr) → m ≡ meaning_of at e.what → e.what ≡ Gives n g → g.primes ≡ Never
    → ((ρ : Scope) (q : Place) (d : ℕ) → given n g q (arguments_in es ρ) d ≡ with_primes g.primes (expand (view x) ρ d)) → (σ : Scope) (p : Place) (d : ℕ) → m p (arguments_in es σ) d ≡ expand (view x) σ d
use_never at m e n g es x h w q c = λ σ p d. rw (h, w) (c σ p d ∙ rw q (shown_never (expand (view x) σ d)))
