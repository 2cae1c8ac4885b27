-- Whether the arguments of a function are some values.
use Rattle.std.proofs.Common.{◌≡◌, ℕ, zero, suc, ◌+◌, ◌<◌, Bool, true, false, List, [], ◌∷◌, Some, map, length, arith, drop, get_or, option_map, refl, sym, ap, ◌∙◌, true≢false, add-one}
use Rattle.std.specs.Prelude.{slice_get}
use Rattle.tla_value.specs.Tree.{Tree, Trees, set, more_trees, trees, members-trees, members}
use Rattle.tla_value.specs.TreeOf.{tree_of}
use Rattle.tla_value.specs.Order.{tree_eq}
use Rattle.tla_value.specs.declared.value.Value.{Value}
use Rattle.tla_value.proofs.Ways.{from_place}
use Rattle.tla_value.proofs.TreeTests.{bool-iff, eq-true, eq-same}
use Rattle.tla_operators.proofs.Members.{set-same}

first_same : (a b : Tree) (us vs : Trees) → more_trees a us ≡ more_trees b vs → a ≡ b
first_same a b us vs h = cc

rest_same : (a b : Tree) (us vs : Trees) → more_trees a us ≡ more_trees b vs → us ≡ vs
rest_same a b us vs h = cc

same_cons : (a b : Tree) (us vs : List Tree) → tree_eq a b ≡ true → tree_eq (set (trees (a ∷ us))) (set (trees (b ∷ vs))) ≡ tree_eq (set (trees us)) (set (trees vs))
same_cons a b us vs e =
    bool-iff _ _
    (λ h. eq-same _ _ (ap set (rest_same a b (trees us) (trees vs) (set-same _ _ (eq-true _ _ h)))))
    (λ h. eq-same _ _ (λ i. set (more_trees (eq-true a b e i) (set-same (trees us) (trees vs) (eq-true _ _ h) i))))

other_cons : (a b : Tree) (us vs : List Tree) → tree_eq a b ≡ false → tree_eq (set (trees (a ∷ us))) (set (trees (b ∷ vs))) ≡ false
other_cons a b us vs e = go (tree_eq (set (trees (a ∷ us))) (set (trees (b ∷ vs)))) refl
  where
    go : (r : Bool) → tree_eq (set (trees (a ∷ us))) (set (trees (b ∷ vs))) ≡ r → tree_eq (set (trees (a ∷ us))) (set (trees (b ∷ vs))) ≡ false
    go true h = absurd (true≢false (sym (eq-same a b (first_same a b (trees us) (trees vs) (set-same _ _ (eq-true _ _ h)))) ∙ e))
    go false h = h

pub other_length : (us vs : List Tree) → (length us ≡ length vs → ⊥) → tree_eq (set (trees us)) (set (trees vs)) ≡ false
other_length us vs e = go (tree_eq (set (trees us)) (set (trees vs))) refl
  where
    go : (r : Bool) → tree_eq (set (trees us)) (set (trees vs)) ≡ r → tree_eq (set (trees us)) (set (trees vs)) ≡ false
    go true h = absurd (e (ap length (sym (members-trees us) ∙ ap members (set-same _ _ (eq-true _ _ h)) ∙ members-trees vs)))
    go false h = h

-- ---- from one index on
abbrev pub same_from : List Tree → List Value → ℕ → Bool
same_from ts vs i = tree_eq (set (trees (drop i ts))) (set (trees (drop i (map tree_of vs))))

found_place : (f : Tree → Bool) (r : Bool) (ts : List Tree) (i : ℕ) → option_map f (slice_get ts i) ≡ Some r → (a : Tree) × (drop i ts ≡ a ∷ drop (suc i) ts) × (f a ≡ r)
found_place f r [] i h = cc
found_place f r (t ∷ ts) zero h = (t, refl, cc)
found_place f r (t ∷ ts) (suc i) h = found_place f r ts i h

module _ (ts : List Tree) (vs : List Value) (i : ℕ) (v : Value) (m : i < length vs) (f : v ≡ get_or vs i v) where
  pub arguments_step : option_map (λ a. tree_eq a (tree_of v)) (slice_get ts i) ≡ Some true → same_from ts vs i ≡ same_from ts vs (i + 1)
  arguments_step h =
      let at = found_place (λ a. tree_eq a (tree_of v)) true ts i h in
      rw add-one ((λ j. tree_eq (set (trees (at.1 j))) (set (trees (from_place tree_of vs i v m f j)))) ∙ same_cons at.0 (tree_of v) (drop (suc i) ts) (drop (suc i) (map tree_of vs)) at.2)

  pub arguments_stop : option_map (λ a. tree_eq a (tree_of v)) (slice_get ts i) ≡ Some false → same_from ts vs i ≡ false
  arguments_stop h =
      let at = found_place (λ a. tree_eq a (tree_of v)) false ts i h in
      (λ j. tree_eq (set (trees (at.1 j))) (set (trees (from_place tree_of vs i v m f j)))) ∙ other_cons at.0 (tree_of v) (drop (suc i) ts) (drop (suc i) (map tree_of vs)) at.2

pub found_here : (vs : List Value) (i : ℕ) (x : Value) → i < length vs → x ≡ get_or vs i x → slice_get (map tree_of vs) i ≡ Some (tree_of x)
found_here [] i x l e = absurd (omega arith)
found_here (v ∷ vs) zero x l e = ap (λ y. Some (tree_of y)) (sym e)
found_here (v ∷ vs) (suc i) x l e = found_here vs i x (omega arith) e
