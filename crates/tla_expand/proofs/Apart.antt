-- Expressions behind references, and their conjunction.
use Rattle.std.proofs.Common.{◌≡◌, ◌≢◌, ◌<◌, ℕ, List, [], ◌∷◌, Option, Some, None, length, map, get_or, arith, refl, ap, sym, ◌∙◌}
use Rattle.std.proofs.lemmas.List.{get_or-map}
use Rattle.std.specs.Borrow.{Bor}
use Rattle.tla_core.specs.declared.fault.Place.{Place}
use Rattle.tla_core.specs.Expr.{Expr, conjunction}
use Rattle.tla_model.specs.Size.{IsWithinLimits, nodes, depth}
use Rattle.tla_tree.specs.declared.tree.Expr as syntax
use Rattle.tla_tree.specs.Tree.{Tree, Trees, trees}
use Rattle.tla_tree.specs.View.{view}
use Rattle.tla_scopes.specs.declared.failure.Failure.{Failure}
use Rattle.tla_scopes.specs.declared.failure.Failure.TheVariants.{NoExpansion, TooLarge, Memory}
use Rattle.tla_scopes.specs.declared.nodes.ListNode.TheVariants as manies
use Rattle.tla_scopes.specs.declared.primes.Primes.{Primes}
use Rattle.tla_scopes.specs.Lists.{exprs}
use Rattle.tla_scopes.specs.Meanings.{Scope}
use Rattle.tla_scopes.specs.Expand.{expand_each}
use Rattle.tla_expand.specs.Private.Gives.{part_in, pointed, total, highest, FailsBy, Fails, Makes}
use Rattle.tla_scopes.specs.Maybe.{◌>>=◌, each_of}
use Rattle.tla_scopes.specs.Primes.{with_primes}
use Rattle.tla_expand.proofs.Lists.{each_in}
use Rattle.tla_expand.proofs.Made.{many_larger, many_shown}
use Rattle.tla_expand.proofs.Sizes.{Given, node_fails, node_gives}

pub pointed_at : (ts : List (Bor syntax.Expr)) (i : ℕ) (t : Bor syntax.Expr) → i < length ts → t ≡ get_or ts i t → t.now ≡ get_or (pointed ts) i t.now
pointed_at ts i t h e = ap (λ (x : Bor syntax.Expr). x.now) e ∙ sym (get_or-map (λ (x : Bor syntax.Expr). x.now) ts i t t.now h)

-- the trees of expressions behind references
abbrev pub trees_at : List (Bor syntax.Expr) → Trees
trees_at ts = trees (map (λ (t : Bor syntax.Expr). view t.now) ts)

trees_pointed : (ts : List (Bor syntax.Expr)) → map (λ (t : Bor syntax.Expr). view t.now) ts ≡ map view (pointed ts)
trees_pointed [] = refl
trees_pointed (t ∷ ts) = ap (λ (us : List Tree). view t.now ∷ us) (trees_pointed ts)

module _ (ts : List (Bor syntax.Expr)) (σ : Scope) (k : Primes) (p : Place) where
  -- the conjunction under so many primes, by its parts
  pub conjunction_shown : with_primes k (expand_each (trees_at ts) σ 0 >>= λ xs. Some (conjunction p xs)) ≡ (each_of (part_in k σ 0) (pointed ts) >>= λ xs. Some (conjunction p (exprs xs)))
  conjunction_shown =
      ap (λ (us : List Tree). with_primes k (expand_each (trees us) σ 0 >>= λ xs. Some (conjunction p xs))) (trees_pointed ts)
      ∙ many_shown manies.And k p (expand_each (trees (map view (pointed ts))) σ 0) (each_of (part_in k σ 0) (pointed ts)) (each_in k (pointed ts) σ 0)

  pub conjunction_fails : (s : Failure) → FailsBy (total nodes) (highest depth) 299 199999 s (each_of (part_in k σ 0) (pointed ts))
      → Fails 300 200000 s (with_primes k (expand_each (trees_at ts) σ 0 >>= λ xs. Some (conjunction p xs)))
  conjunction_fails s h = rw conjunction_shown (node_fails (total nodes) (highest depth) (λ xs. conjunction p (exprs xs)) s (each_of (part_in k σ 0) (pointed ts)) 299 199999 (many_larger manies.And p) h)

  pub conjunction_gives : (xs : List Expr) (c : Expr) (rest : ℕ) → Makes (total nodes) (highest depth) 299 199999 rest xs (each_of (part_in k σ 0) (pointed ts)) → c ≡ conjunction p (exprs xs)
      → Given (with_primes k (expand_each (trees_at ts) σ 0 >>= λ xs. Some (conjunction p xs))) c rest 200000 300
  conjunction_gives xs c rest g e = rw conjunction_shown (node_gives (total nodes) (highest depth) (λ ys. conjunction p (exprs ys)) (each_of (part_in k σ 0) (pointed ts)) xs c 299 199999 rest (many_larger manies.And p) g e)

no_other : Memory ≢ Memory → ⊥
no_other h = h refl

-- where it fails within the limits, there is nothing within them
pub none_within : (s : Failure) (o : Option Expr) → Fails 300 200000 s o → s ≢ Memory → (e : Expr) → o ≡ Some e → IsWithinLimits e → ⊥
none_within (NoExpansion p) o h k e q l = let z : ⊥ = cc in z
none_within TooLarge o h k e q l = h e q l.small l.shallow
none_within Memory o h k e q l = no_other k

pub none_told : (s : Failure) (o : Option Expr) → Fails 300 200000 s o → (p : Place) → s ≡ NoExpansion p → o ≡ None
none_told s o h p q = rw q at h

pub limits_given : (o : Option Expr) (c : Expr) (rest : ℕ) → Given o c rest 200000 300 → IsWithinLimits c
limits_given o c rest g = record { small = omega (arith, g.1); shallow = g.2 }
