-- One more iteration of a loop over values.
use Rattle.std.proofs.Common.{◌≡◌, ℕ, suc, ◌+◌, ◌<◌, ◌≤◌, ◌&&◌, map, List, length, drop, get_or, Bool, true, false, cond, Ok, ap, sym, ◌∙◌, add-one, drop-cons}
use Rattle.tla_value.specs.Tree.{Tree}
use Rattle.tla_value.specs.TreeOf.{tree_of}
use Rattle.tla_value.specs.declared.value.Value.{Value}
use Rattle.std.specs.List.{list_all}
use Rattle.std.proofs.lemmas.List.{drop_all}
use Rattle.tla_core.specs.Expr.{Expr}
use Rattle.tla_core.specs.ExprOf.{expr_of}
use Rattle.tla_core.specs.declared.expression.Core.{Core}
use Rattle.tla_core.specs.Fault.{Outcome, ◌>>=◌}
use Rattle.tla_core.specs.Lists.{all_hold}

module _ (test : Tree → Outcome Bool) (items : List Value) (i : ℕ) (x : Value) where
  pub all_hold_step : x ≡ get_or items i x → i < length items → test (tree_of x) ≡ Ok true → all_hold test (map tree_of (drop i items)) ≡ all_hold test (map tree_of (drop (i + 1) items))
  all_hold_step e h f =
      rw (add-one, drop-cons items i x h) (ap (λ o. o >>= λ holds. cond holds (all_hold test (map tree_of (drop (suc i) items))) (Ok false)) (ap (λ y. test (tree_of y)) (sym e) ∙ f))

-- a test of each of some expressions, from one of them on
module _ (test : Expr → Bool) (cores : List Core) (i : ℕ) (x : Core) where
  pub list_all_step : x ≡ get_or cores i x → i < length cores → test (expr_of x) ≡ true → list_all test (map expr_of (drop i cores)) ≡ list_all test (map expr_of (drop (i + 1) cores))
  list_all_step e h f = rw (add-one, drop-cons cores i x h) (ap (λ b. b && list_all test (map expr_of (drop (suc i) cores))) (ap (λ y. test (expr_of y)) (sym e) ∙ f))

  pub list_all_stop : x ≡ get_or cores i x → i < length cores → test (expr_of x) ≡ false → list_all test (map expr_of (drop i cores)) ≡ false
  list_all_stop e h f = rw (drop-cons cores i x h) (ap (λ b. b && list_all test (map expr_of (drop (suc i) cores))) (ap (λ y. test (expr_of y)) (sym e) ∙ f))

pub list_all_end : (test : Expr → Bool) (cores : List Core) (i : ℕ) → length cores ≤ i → list_all test (map expr_of (drop i cores)) ≡ true
list_all_end test cores i h = ap (λ us. list_all test (map expr_of us)) (drop_all i cores h)
