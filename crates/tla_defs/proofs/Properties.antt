-- Names that stand for formulas with a property, where more or fewer names are known to.
use Rattle.std.proofs.Common.{◌≡◌, ◌≤◌, ℕ, zero, suc, arith, refl, sym, Bool, true, false, true≢false, Option, Some, None}
use Rattle.tla_tree.specs.Tree.{Tree}
use Rattle.tla_config.specs.Names.{Name}
use Rattle.tla_defs.specs.Bodies.{Bodies, Property, body_has, names_with}

-- what has the property has it where more names do
abbrev pub Grows : Property → Type 0
Grows f = (φ ψ : Name → Bool) → ((x : Name) → φ x ≡ true → ψ x ≡ true) → (e : Tree) → f φ e ≡ true → f ψ e ≡ true

module _ (f : Property) (grows : Grows f) where
  pub grows_body : (φ ψ : Name → Bool) → ((x : Name) → φ x ≡ true → ψ x ≡ true) → (o : Option Tree) → body_has f φ o ≡ true → body_has f ψ o ≡ true
  grows_body φ ψ g None h = absurd (true≢false (sym h))
  grows_body φ ψ g (Some e) h = grows φ ψ g e h

  -- names still have it where names stand for their definitions deeper
  pub deeper : (b : Bodies) (n : ℕ) (x : Name) → names_with f n b x ≡ true → names_with f (suc n) b x ≡ true
  deeper b zero x h = absurd (true≢false (sym h))
  deeper b (suc n) x h = grows_body (names_with f n b) (names_with f (suc n) b) (λ y g. deeper b n y g) (b x) h

  pub deeper_within : (b : Bodies) (n m : ℕ) (x : Name) → n ≤ m → names_with f n b x ≡ true → names_with f m b x ≡ true
  deeper_within b zero m x l h = absurd (true≢false (sym h))
  deeper_within b (suc n) zero x l h = let z : ⊥ = omega (arith, l) in absurd z
  deeper_within b (suc n) (suc m) x l h = grows_body (names_with f n b) (names_with f m b) (λ y g. deeper_within b n m y (omega (arith, l)) g) (b x) h

  -- all that have it, where names do whose definitions have it by them
  pub all_names : (b : Bodies) (φ : Name → Bool) → ((x : Name) → body_has f φ (b x) ≡ true → φ x ≡ true) → (n : ℕ) (x : Name) → names_with f n b x ≡ true → φ x ≡ true
  all_names b φ closed zero x h = absurd (true≢false (sym h))
  all_names b φ closed (suc n) x h = closed x (grows_body (names_with f n b) φ (λ y g. all_names b φ closed n y g) (b x) h)

-- two answers of which each is yes where the other is
pub same_answer : (a b : Bool) → (a ≡ true → b ≡ true) → (b ≡ true → a ≡ true) → a ≡ b
same_answer true b f g = sym (f refl)
same_answer false true f g = g refl
same_answer false false f g = refl
