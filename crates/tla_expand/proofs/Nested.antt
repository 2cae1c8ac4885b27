-- Nodes for names, one in another: what they give, from what the first set and the rest give.
use Rattle.std.proofs.Common.{◌≡◌, ℕ, ◌+◌, List, ◌∷◌, Option, Some}
use Rattle.tla_core.specs.declared.fault.Place.{Place}
use Rattle.tla_core.specs.Expr.{Expr}
use Rattle.tla_model.specs.Size.{nodes, depth}
use Rattle.tla_scopes.specs.declared.failure.Failure.{Failure}
use Rattle.tla_scopes.specs.declared.primes.Primes.{Primes}
use Rattle.tla_scopes.specs.declared.nodes.Binding.{Binding}
use Rattle.tla_scopes.specs.Maybe.{◌>>=◌}
use Rattle.tla_scopes.specs.Nodes.{binding}
use Rattle.tla_scopes.specs.Meanings.{Scope, Argument}
use Rattle.tla_scopes.specs.Bound.{Bind, under, nested, last_or}
use Rattle.tla_expand.specs.Private.Gives.{both, sum_of, larger_of, FailsBy, Fails}
use Rattle.tla_scopes.specs.Primes.{with_primes}
use Rattle.tla_expand.proofs.Sizes.{Given, second_fails, two_give, node_fails, node_gives}
use Rattle.tla_expand.proofs.Made.{binding_larger, binding_shown}

abbrev Pair : Type 0
Pair = Expr × Expr

module _ (f : Binding) (p : Place) (bs : List Bind) (b : Bind) (rest : List Bind) (body : Scope → Argument) (σ : Scope) (d : ℕ) (k : Primes)
    (is : bs ≡ b ∷ rest) where
  -- the expression under the names of the element
  abbrev pub inner : Option Expr
  inner = under p b.0 (last_or rest body (nested f p rest body)) σ d

  whole : with_primes k (nested f p bs body σ d) ≡ (both (with_primes k (b.1 d)) (with_primes k inner) >>= λ (xy : Pair). Some (binding f p xy.0 xy.1))
  whole = rw is (binding_shown f k p (b.1 d) inner)

  fails : (s : Failure) (depth_left nodes_left : ℕ) → FailsBy (sum_of nodes nodes) (larger_of depth depth) depth_left nodes_left s (both (with_primes k (b.1 d)) (with_primes k inner)) → Fails (depth_left + 1) (nodes_left + 1) s (with_primes k (nested f p bs body σ d))
  fails s depth_left nodes_left h =
      rw whole (node_fails (sum_of nodes nodes) (larger_of depth depth) (λ (xy : Pair). binding f p xy.0 xy.1) s (both (with_primes k (b.1 d)) (with_primes k inner)) depth_left nodes_left (binding_larger f p) h)

  pub inner_fails : (s : Failure) (depth_left nodes_left less : ℕ) (x : Expr) → with_primes k (b.1 d) ≡ Some x → less + nodes x ≡ nodes_left → Fails depth_left less s (with_primes k inner)
      → Fails (depth_left + 1) (nodes_left + 1) s (with_primes k (nested f p bs body σ d))
  inner_fails s depth_left nodes_left less x g n h = fails s depth_left nodes_left (second_fails nodes depth nodes depth s (with_primes k (b.1 d)) (with_primes k inner) x depth_left nodes_left less g n h)

  pub nested_gives : (depth_left nodes_left less last : ℕ) (x y c : Expr) → Given (with_primes k (b.1 d)) x less nodes_left depth_left → Given (with_primes k inner) y last less depth_left → c ≡ binding f p x y
      → Given (with_primes k (nested f p bs body σ d)) c last (nodes_left + 1) (depth_left + 1)
  nested_gives depth_left nodes_left less last x y c g h e =
      rw whole (node_gives (sum_of nodes nodes) (larger_of depth depth) (λ (xy : Pair). binding f p xy.0 xy.1) (both (with_primes k (b.1 d)) (with_primes k inner)) (x, y) c depth_left nodes_left last (binding_larger f p)
      (two_give nodes depth nodes depth (with_primes k (b.1 d)) (with_primes k inner) x y depth_left nodes_left less last g h) e)
