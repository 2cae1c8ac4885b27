-- One node for names, their sets and a body: what it gives, from what the sets and the body give.
use Rattle.std.proofs.Common.{◌≡◌, ◌≤◌, ℕ, suc, ◌+◌, List, [], ◌∷◌, length, refl, ap, ◌∙◌, arith, Option, Some}
use Rattle.tla_core.specs.declared.fault.Place.{Place}
use Rattle.tla_core.specs.Expr.{Expr}
use Rattle.tla_model.specs.Size.{nodes, depth}
use Rattle.tla_scopes.specs.declared.failure.Failure.{Failure}
use Rattle.tla_scopes.specs.declared.primes.Primes.{Primes}
use Rattle.tla_expand.specs.declared.binders.Bind.{Bind}
use Rattle.tla_scopes.specs.declared.nodes.Gather.{Gather}
use Rattle.tla_scopes.specs.Maybe.{◌>>=◌, each_of}
use Rattle.tla_scopes.specs.Lists.{exprs}
use Rattle.tla_scopes.specs.Primes.{primes, with_primes}
use Rattle.tla_scopes.specs.Nodes.{gather}
use Rattle.tla_scopes.specs.Meanings.{Scope, Argument}
use Rattle.tla_scopes.specs.Bound as x
use Rattle.tla_core.specs.Expr.{tried}
use Rattle.tla_core.specs.Patterns.{items_in}
use Rattle.tla_tree.specs.View.{view}
use Rattle.tla_scopes.specs.Expand.{expand}
use Rattle.tla_scopes.specs.Bound.{with_elements, with_items, openings, under_openings, gathered}
use Rattle.tla_expand.specs.Private.Binders.{names_of, binds_in}
use Rattle.tla_expand.specs.Private.Gives.{both, total, highest, sum_of, larger_of, set_in, Makes, FailsBy, Fails}
use Rattle.tla_expand.proofs.Keeps.{inv}
use Rattle.tla_scopes.proofs.Primed.{one}
use Rattle.tla_expand.proofs.Groups.{binds_length}
use Rattle.tla_expand.proofs.Lists.{each_then}
use Rattle.tla_expand.proofs.Made.{gather_larger, gather_shown}
use Rattle.tla_expand.proofs.Sizes.{Given, some_node, first_fails, second_fails, two_give, node_fails, node_gives}

-- a set that is tried, under primes
set_primed : (p : Place) (k : Primes) (n : x.Names) (o : Option Expr) → (x.set_for p n o >>= primes k) ≡ x.set_for p n (o >>= primes k)
set_primed p k (x.named y) o = refl
set_primed p k (x.tupled ws) o = one (λ s. tried p (length ws) s) (primes k) (primes k) (λ s. refl) o

sets_in : (p : Place) (k : Primes) (σ : Scope) (d : ℕ) (binds : List Bind) → each_of (λ (b : x.Bind). x.set_for p b.0 (b.1 d) >>= primes k) (binds_in binds σ) ≡ each_of (set_in p k σ d) binds
sets_in p k σ d [] = refl
sets_in p k σ d (b ∷ binds) =
    (λ i. set_primed p k (names_of b.names) (expand (view b.set.now) σ d) i >>= λ y. each_of (λ (b : x.Bind). x.set_for p b.0 (b.1 d) >>= primes k) (binds_in binds σ) >>= λ ys. Some (y ∷ ys))
    ∙ ap (λ (o : Option (List Expr)). set_in p k σ d b >>= λ y. o >>= λ ys. Some (y ∷ ys)) (sets_in p k σ d binds)

-- there are as many sets as names, and each has a node
each_length : {A B : Type 0} (f : A → Option B) (ts : List A) (xs : List B) → each_of f ts ≡ Some xs → length xs ≡ length ts
each_length f [] xs h = let w : [] ≡ xs = cc in rw (← w) refl
each_length f (t ∷ ts) xs h =
    let i = inv (f t) (λ y. each_of f ts >>= λ ys. Some (y ∷ ys)) xs h in
    let j = inv (each_of f ts) (λ ys. Some (i.0 ∷ ys)) xs i.2 in
    let w : i.0 ∷ j.0 ≡ xs = cc in
    rw (← w) (ap suc (each_length f ts j.0 j.1))

some_nodes : (xs : List Expr) → length xs ≤ total nodes xs
some_nodes [] = omega arith
some_nodes (x ∷ xs) = omega (arith, some_node x, some_nodes xs)

pub names_small : {A : Type 0} (f : A → Option Expr) (ts : List A) (xs : List Expr) (rest nodes_left : ℕ) → each_of f ts ≡ Some xs → rest + total nodes xs ≡ nodes_left → rest + length ts ≤ nodes_left
names_small f ts xs rest nodes_left h n = omega (arith, each_length f ts xs h, some_nodes xs, n)

abbrev Pair : Type 0
Pair = List Expr × Expr

module _ (f : Gather) (p : Place) (bs : List x.Bind) (binds : List Bind) (body : Scope → Argument) (σ τ : Scope) (d : ℕ) (k : Primes)
    (is : binds_in binds σ ≡ bs) (named : with_items bs (d + length binds) (with_elements bs d σ) ≡ τ) where
  -- the sets, and the body under the names
  abbrev sets : Option (List Expr)
  sets = each_of (set_in p k σ d) binds

  abbrev inner : Option Expr
  inner = with_primes k (under_openings p (openings bs d) (body τ (d + length binds + items_in (openings bs d))))

  whole : with_primes k (gathered f p bs body σ d) ≡ (both sets inner >>= λ (xy : Pair). Some (gather f p (exprs xy.0) xy.1))
  whole =
      let long : length bs ≡ length binds = rw (← is) (binds_length binds σ) in
      rw (long, named)
      (gather_shown f k p (each_of (λ (b : x.Bind). x.set_for p b.0 (b.1 d)) bs) (under_openings p (openings bs d) (body τ (d + length binds + items_in (openings bs d)))) sets
      (each_then (λ (b : x.Bind). x.set_for p b.0 (b.1 d)) (primes k) bs ∙ rw (← is) (sets_in p k σ d binds)))

  pub sets_fail : (s : Failure) (depth_left nodes_left : ℕ) → FailsBy (total nodes) (highest depth) depth_left nodes_left s sets → Fails (depth_left + 1) (nodes_left + 1) s (with_primes k (gathered f p bs body σ d))
  sets_fail s depth_left nodes_left h =
      rw whole (node_fails (sum_of (total nodes) nodes) (larger_of (highest depth) depth) (λ (xy : Pair). gather f p (exprs xy.0) xy.1) s (both sets inner) depth_left nodes_left (gather_larger f p)
      (first_fails (total nodes) (highest depth) nodes depth s sets inner depth_left nodes_left h))

  pub body_fails : (s : Failure) (depth_left nodes_left less : ℕ) (xs : List Expr) → Makes (total nodes) (highest depth) depth_left nodes_left less xs sets → Fails depth_left less s inner
      → Fails (depth_left + 1) (nodes_left + 1) s (with_primes k (gathered f p bs body σ d))
  body_fails s depth_left nodes_left less xs g h =
      rw whole (node_fails (sum_of (total nodes) nodes) (larger_of (highest depth) depth) (λ (xy : Pair). gather f p (exprs xy.0) xy.1) s (both sets inner) depth_left nodes_left (gather_larger f p)
      (second_fails (total nodes) (highest depth) nodes depth s sets inner xs depth_left nodes_left less g.0 g.1 h))

  pub gather_gives : (depth_left nodes_left less last : ℕ) (xs : List Expr) (y c : Expr) → Makes (total nodes) (highest depth) depth_left nodes_left less xs sets → Makes nodes depth depth_left less last y inner → c ≡ gather f p (exprs xs) y
      → Given (with_primes k (gathered f p bs body σ d)) c last (nodes_left + 1) (depth_left + 1)
  gather_gives depth_left nodes_left less last xs y c g h e =
      rw whole (node_gives (sum_of (total nodes) nodes) (larger_of (highest depth) depth) (λ (xy : Pair). gather f p (exprs xy.0) xy.1) (both sets inner) (xs, y) c depth_left nodes_left last (gather_larger f p)
      (two_give (total nodes) (highest depth) nodes depth sets inner xs y depth_left nodes_left less last g h) e)
