-- The known value of a name, and of a use of a definition.
use Rattle.std.proofs.Common.{◌≡◌, ℕ, zero, suc, ◌+◌, List, [], ◌∷◌, ◌++◌, length, get_or, Option, Some, None, Result, Ok, Err, IfOk, OnOk, IfSome, slice_get, Bor, ap, sym, subst, ◌∙◌, arith}
use Rattle.std.proofs.lemmas.List.{length-append}
use Rattle.tla_value.specs.Tree.{Tree}
use Rattle.tla_value.specs.TreeOf.{tree_of}
use Rattle.tla_value.specs.declared.value.Value.{Value}
use Rattle.tla_core.specs.declared.fault.Place.{Place}
use Rattle.tla_core.specs.Meaning.{Bound, Present, Next}
use Rattle.tla_core.specs.Value.{val}
use Rattle.tla_code.specs.Raise.{raise}
use Rattle.tla_code.specs.CodeExpr.{used}
use Rattle.tla_code.proofs.RaisedValue.{value_raised}
use Rattle.tla_quick.specs.declared.stop.Stop.{Stop}
use Rattle.tla_quick.specs.declared.frame.Frame.{Frame}
use Rattle.tla_quick.specs.Private.Frames.{bound_of, scope_of, IsDefinition}
use Rattle.tla_quick.proofs.Found.{unchanged}

-- an item that exists
pub found_or : (b : List Tree) (i : ℕ) (v d : Tree) → slice_get b i ≡ Some v → v ≡ get_or b i d
found_or [] i v d h = absurd (none_some v h)
  where
    none_some : (v : Tree) → (let r : Option Tree = None in r ≡ Some v) → ⊥
    none_some v k = cc
found_or (x ∷ xs) zero v d h = same x v h
  where
    same : (x v : Tree) → (let r : Option Tree = Some x in r ≡ Some v) → v ≡ x
    same x v k = cc
found_or (x ∷ xs) (suc i) v d h = found_or xs i v d h

-- a use has the value of its definition
module _ (frame : Frame) (s : Present) (t : Next) (number by k : ℕ) (v : Tree) (d : IsDefinition frame s t number k v) (names : k + by ≡ length (bound_of frame)) where
  rest : by ≡ length d.inner
  rest = let e = ap length d.split ∙ length-append d.outer d.inner in omega (arith, names, e, d.count)

  pub used_is : (p : Place) → val (used p by (slice_get (scope_of frame) number)) (bound_of frame) s t ≡ Ok v
  used_is p =
      ap (λ o. val (used p by o) (bound_of frame) s t) d.there
      ∙ ap (λ n. val (raise n by d.expr) (bound_of frame) s t) d.count
      ∙ ap (λ n. val (raise (length d.outer) n d.expr) (bound_of frame) s t) rest
      ∙ ap (λ (b : Bound). val (raise (length d.outer) (length d.inner) d.expr) b s t) (d.split ∙ sym (unchanged (d.outer ++ d.inner)))
      ∙ value_raised d.expr d.outer d.inner [] s t
      ∙ ap (λ (b : Bound). val d.expr b s t) (unchanged d.outer)
      ∙ d.value

-- a property of a value holds of an equal value
pub of_value : (P : Tree → Type 0) (o : Option (Bor Value)) (v : Bor Value) → o ≡ Some v → IfSome o (λ w. P (tree_of w.now)) → P (tree_of v.now)
of_value P o v e h = subst (λ (u : Option (Bor Value)). IfSome u (λ w. P (tree_of w.now))) e h

module _ (frame : Frame) (s : Present) (t : Next) (number by k : ℕ) (p : Place) where
  abbrev HasIt : Tree → Type 0
  HasIt v = val (used p by (slice_get (scope_of frame) number)) (bound_of frame) s t ≡ Ok v

  all_used : (o : Option (Bor Value)) → k + by ≡ length (bound_of frame) → IfSome o (λ v. IsDefinition frame s t number k (tree_of v.now)) → IfSome o (λ v. HasIt (tree_of v.now))
  all_used None names h = h
  all_used (Some v) names h = used_is frame s t number by k (tree_of v.now) h names p

  pub used_ok : (r : Result (Bor Value) Stop) (o : Option (Bor Value)) → IfOk r (λ v. o ≡ Some v) → OnOk r (k + by ≡ length (bound_of frame)) → IfSome o (λ v. IsDefinition frame s t number k (tree_of v.now)) → IfOk r (λ v. HasIt (tree_of v.now))
  used_ok (Ok v) o h names d = of_value HasIt o v h (all_used o names d)
  used_ok (Err e) o h names d = h
