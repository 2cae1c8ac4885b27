-- A search that answers a place, and none after the first, answers the first.
use Rattle.std.proofs.Common.{◌≡◌, ◌≤◌, ◌<◌, inl, inr, ℕ, Option, Some, None, refl, sym, ap, ◌∙◌, arith}
use Rattle.std.proofs.lemmas.Bool.{cases_lt}

module _ (place : ℕ → Type 0) (answer : Option ℕ) where
  module _ (least : (n : ℕ) → place n → (m : ℕ) × (answer ≡ Some m) × (m ≤ n)) where
    pub found_first : (to : ℕ) → answer ≡ Some to → (n : ℕ) → n < to → place n → ⊥
    found_first to h n before p =
        let l = least n p in
        let both : Some to ≡ Some l.0 = sym h ∙ l.1 in
        let same : to ≡ l.0 = cc in
        let most = l.2 in
        omega (arith, before, same, most)

    pub none_found : answer ≡ None → (n : ℕ) → place n → ⊥
    none_found h n p = let l = least n p in let both : Some l.0 ≡ None = sym l.1 ∙ h in cc

  module _ (found : (n : ℕ) → answer ≡ Some n → place n) where
    pub found_none : ((n : ℕ) → place n → ⊥) → answer ≡ None
    found_none h = by answer refl
      where
        by : (o : Option ℕ) → answer ≡ o → o ≡ None
        by None e = refl
        by (Some m) e = absurd (h m (found m e))

    pub first_found : ((n : ℕ) → place n → (m : ℕ) × (answer ≡ Some m) × (m ≤ n)) → (to : ℕ) → place to → ((n : ℕ) → n < to → place n → ⊥) → answer ≡ Some to
    first_found least to p first =
        let l = least to p in
        let most = l.2 in
        elim (cases_lt l.0 to) [
          | inl before ↦ absurd (first l.0 before (found l.0 l.1))
          | inr late ↦ let same : l.0 ≡ to = omega (arith, most, late) in l.1 ∙ ap Some same
        ]
