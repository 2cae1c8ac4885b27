-- Equal values, and lists with equal items.
use Rattle.std.proofs.Common.{◌≡◌, true, ℕ, ◌+◌, ◌<◌, List, [], ◌∷◌, ◌++◌, length, take, get_or, map, ap, sym, ◌∙◌}
use Rattle.std.proofs.lemmas.List.{map-append, take_more}
use Rattle.tla_value.specs.Tree.{text}
use Rattle.tla_value.specs.TreeOf.{tree_of}
use Rattle.tla_value.specs.Order.{tree_eq}
use Rattle.tla_value.specs.ValueOrder.{value_eq}
use Rattle.tla_value.specs.declared.value.Value.{Value}
use Rattle.tla_value.proofs.TreeTests.{eq-true}

pub same_value : (v w : Value) → value_eq v w ≡ true → tree_of v ≡ tree_of w
same_value v w h = eq-true (tree_of v) (tree_of w) h

pub same_name : (s t : List ℕ) → tree_eq (text s) (text t) ≡ true → s ≡ t
same_name s t h = inside (eq-true (text s) (text t) h)
  where
    inside : text s ≡ text t → s ≡ t
    inside q = cc

module _ {A B : Type 0} (f : A → B) where
  one_more : (xs : List A) (i : ℕ) (x : A) → i < length xs → x ≡ get_or xs i x → map f (take (i + 1) xs) ≡ map f (take i xs) ++ f x ∷ []
  one_more xs i x l is = ap (map f) (take_more xs i x l ∙ ap (λ z. take i xs ++ z ∷ []) (sym is)) ∙ map-append f (take i xs) (x ∷ [])

  pub same_more : (xs ys : List A) (i : ℕ) (x y : A) → i < length xs → i < length ys → x ≡ get_or xs i x → y ≡ get_or ys i y → f x ≡ f y → map f (take i xs) ≡ map f (take i ys) → map f (take (i + 1) xs) ≡ map f (take (i + 1) ys)
  same_more xs ys i x y l m is also e h =
      one_more xs i x l is
      ∙ ap (λ us. us ++ f x ∷ []) h
      ∙ ap (λ z. map f (take i ys) ++ z ∷ []) e
      ∙ sym (one_more ys i y m also)
