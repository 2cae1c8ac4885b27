-- Fields with their names, and the updates of EXCEPT.
use Rattle.std.proofs.Common.{◌≡◌, ℕ, ◌+◌, List, [], ◌∷◌, map, refl, ap, ◌∙◌, arith, Option, Some, None}
use Rattle.tla_tree.specs.declared.tree.Field.{Field}
use Rattle.tla_tree.specs.declared.tree.Key.{Key}
use Rattle.tla_tree.specs.declared.tree.Update.{Update}
use Rattle.tla_tree.specs.Tree as t
use Rattle.tla_tree.specs.View.{view, field_view, key_view, update_view}
use Rattle.tla_core.specs.Expr.{Expr, more_exprs, more_fields, more_updates}
use Rattle.tla_model.specs.Size.{nodes_fields, depth_fields, nodes_updates, depth_updates}
use Rattle.tla_scopes.specs.declared.primes.Primes.{Primes}
use Rattle.tla_scopes.specs.declared.failure.Failure.{Failure}
use Rattle.tla_scopes.specs.declared.failure.Failure.TheVariants.{NoExpansion, TooLarge, Memory}
use Rattle.tla_scopes.specs.Maybe.{◌>>=◌, each_of}
use Rattle.tla_scopes.specs.Lists.{exprs, fields_of, updates_of}
use Rattle.tla_scopes.specs.Places.{at_name}
use Rattle.tla_scopes.specs.Primes.{primes, primes_each, primes_fields, primes_updates}
use Rattle.tla_scopes.specs.Meanings.{Scope, with_name, bound_name}
use Rattle.tla_scopes.specs.Expand.{expand, expand_fields, expand_step, expand_path, expand_updates}
use Rattle.tla_expand.specs.Private.Gives.{both, total, highest, field_nodes, field_depth, update_nodes, update_depth, part_in, field_in, step_in, value_in, update_in, FailsBy, Fails}
use Rattle.tla_scopes.proofs.Primed as primed
use Rattle.tla_expand.proofs.Lists.{nodes_exprs, depth_exprs}

fields_regroup : (n : List ℕ) (a : Option Expr) (o : Option (List (List ℕ × Expr)))
    → (a >>= λ x. (o >>= λ xs. Some (fields_of xs)) >>= λ xs. Some (more_fields n x xs)) ≡ (((a >>= λ x. Some (n, x)) >>= λ y. o >>= λ ys. Some (y ∷ ys)) >>= λ xs. Some (fields_of xs))
fields_regroup n None o = refl
fields_regroup n (Some x) None = refl
fields_regroup n (Some x) (Some xs) = refl

pub fields_in : (k : Primes) (fs : List Field) (σ : Scope) (d : ℕ) → (expand_fields (t.fields (map field_view fs)) σ d >>= primes_fields k) ≡ (each_of (field_in k σ d) fs >>= λ xs. Some (fields_of xs))
fields_in k [] σ d = refl
fields_in k (f ∷ fs) σ d =
    primed.two (λ x xs. more_fields f.name.word x xs) (primes k) (primes_fields k) (primes_fields k) (λ x xs. refl) (expand (view f.value) σ d) (expand_fields (t.fields (map field_view fs)) σ d)
    ∙ rw (fields_in k fs σ d) (fields_regroup f.name.word (part_in k σ d f.value) (each_of (field_in k σ d) fs))

pub nodes_fields_of : (xs : List (List ℕ × Expr)) → nodes_fields (fields_of xs) ≡ total field_nodes xs
nodes_fields_of [] = refl
nodes_fields_of (x ∷ xs) = omega (arith, nodes_fields_of xs)

pub depth_fields_of : (xs : List (List ℕ × Expr)) → depth_fields (fields_of xs) ≡ highest field_depth xs
depth_fields_of [] = refl
depth_fields_of (x ∷ xs) = omega (arith, depth_fields_of xs)

path_regroup : (a : Option Expr) (o : Option (List Expr)) → (a >>= λ x. (o >>= λ xs. Some (exprs xs)) >>= λ xs. Some (more_exprs x xs)) ≡ ((a >>= λ x. o >>= λ xs. Some (x ∷ xs)) >>= λ xs. Some (exprs xs))
path_regroup None o = refl
path_regroup (Some x) None = refl
path_regroup (Some x) (Some xs) = refl

path_in : (k : Primes) (ks : List Key) (σ : Scope) (d : ℕ) → (expand_path (t.keys (map key_view ks)) σ d >>= primes_each k) ≡ (each_of (step_in k σ d) ks >>= λ xs. Some (exprs xs))
path_in k [] σ d = refl
path_in k (x ∷ ks) σ d =
    primed.two (λ y xs. more_exprs y xs) (primes k) (primes_each k) (primes_each k) (λ y xs. refl) (expand_step (key_view x) σ d) (expand_path (t.keys (map key_view ks)) σ d)
    ∙ rw (path_in k ks σ d) (path_regroup (step_in k σ d x) (each_of (step_in k σ d) ks))

updates_regroup : (a : Option (List Expr)) (b : Option Expr) (o : Option (List (List Expr × Expr)))
    → ((a >>= λ xs. Some (exprs xs)) >>= λ xs. b >>= λ y. (o >>= λ us. Some (updates_of us)) >>= λ us. Some (more_updates xs y us)) ≡ ((both a b >>= λ u. o >>= λ us. Some (u ∷ us)) >>= λ us. Some (updates_of us))
updates_regroup None b o = refl
updates_regroup (Some xs) None o = refl
updates_regroup (Some xs) (Some y) None = refl
updates_regroup (Some xs) (Some y) (Some us) = refl

pub updates_in : (k : Primes) (us : List Update) (σ : Scope) (d : ℕ) → (expand_updates (t.updates (map update_view us)) σ d >>= primes_updates k) ≡ (each_of (update_in k σ d) us >>= λ xs. Some (updates_of xs))
updates_in k [] σ d = refl
updates_in k (u ∷ us) σ d =
    let path = expand_path (t.keys (map key_view u.path.items)) σ d in
    let value = expand (view u.value) (with_name at_name (bound_name d) σ) (d + 1) in
    primed.three (λ xs y ys. more_updates xs y ys) (primes_each k) (primes k) (primes_updates k) (primes_updates k) (λ xs y ys. refl) path value (expand_updates (t.updates (map update_view us)) σ d)
    ∙ rw (path_in k u.path.items σ d, updates_in k us σ d) (updates_regroup (each_of (step_in k σ d) u.path.items) (value_in k σ d u.value) (each_of (update_in k σ d) us))

pub nodes_updates_of : (us : List (List Expr × Expr)) → nodes_updates (updates_of us) ≡ total update_nodes us
nodes_updates_of [] = refl
nodes_updates_of (u ∷ us) = omega (arith, nodes_exprs u.0, nodes_updates_of us)

pub depth_updates_of : (us : List (List Expr × Expr)) → depth_updates (updates_of us) ≡ highest update_depth us
depth_updates_of [] = refl
depth_updates_of (u ∷ us) = omega (arith, depth_exprs u.0, depth_updates_of us)

-- a field of what its value gives
pub field_some : (k : Primes) (σ : Scope) (d : ℕ) (f : Field) (x : Expr) (n : List ℕ) → part_in k σ d f.value ≡ Some x → n ≡ f.name.word → field_in k σ d f ≡ Some (n, x)
field_some k σ d f x n h e = rw (h, e) refl

pub field_fails : (s : Failure) (o : Option Expr) (n : List ℕ) (depth_left nodes_left : ℕ) → Fails depth_left nodes_left s o → FailsBy field_nodes field_depth depth_left nodes_left s (o >>= λ x. Some (n, x))
field_fails (NoExpansion p) o n depth_left nodes_left h = rw h refl
field_fails TooLarge None n depth_left nodes_left h = λ x q a b. cc
field_fails TooLarge (Some u) n depth_left nodes_left h = λ x q a b.
    let w : (n, u) ≡ x = cc in
    let w0 = ap field_nodes w in
    let w1 = ap field_depth w in
    h u refl (omega arith) (omega arith)
field_fails Memory o n depth_left nodes_left h = tt
