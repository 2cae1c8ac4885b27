-- Names that are known not to lead to themselves.
use Rattle.std.proofs.Common.{◌≡◌, refl, ap, sym, ◌∙◌, inl, inr, Bool, true, false, List, [], ◌∷◌, ◌++◌}
use Rattle.std.specs.Prelude.{◌⊎◌}
use Rattle.tla_config.specs.Names.{Name, is_among}
use Rattle.tla_items.specs.References.{Reference, next_names, IsCircular}
use Rattle.tla_items.specs.Private.Reached.{AreAmong}
use Rattle.tla_items.specs.Private.Settled.{AreSettled, all_among}
use Rattle.tla_items.proofs.Walks.{one, among_append, among_first, stays}

nowhere : (y : Name) → is_among y [] ≡ true → ⊥
nowhere y h = let z : ⊥ = cc in z

each_among : (xs ys : List Name) → all_among xs ys ≡ true → AreAmong xs ys
each_among [] ys h z m = absurd (nowhere z m)
each_among (x ∷ xs) ys h z m = at (is_among x ys) refl h (λ r. each_among xs ys r z)
  where
    pick : is_among x ys ≡ true → (is_among z xs ≡ true → is_among z ys ≡ true) → (is_among z (x ∷ []) ≡ true) ⊎ (is_among z xs ≡ true) → is_among z ys ≡ true
    pick k rest (inl j) = ap (λ v. is_among v ys) (one z x j) ∙ k
    pick k rest (inr j) = rest j

    at : (b : Bool) → is_among x ys ≡ b → all_among (x ∷ xs) ys ≡ true → (all_among xs ys ≡ true → is_among z xs ≡ true → is_among z ys ≡ true) → is_among z ys ≡ true
    at true k r rest = pick k (rest (rw k at r)) (among_append z (x ∷ []) xs m)
    at false k r rest = let wrong : false ≡ true = rw k at r in let n : ⊥ = cc in absurd n

module _ (ls : List Reference) where
  pub settled_more : (xs : List Name) (x : Name) → AreAmong (next_names ls x) xs → AreSettled ls xs → AreSettled ls (xs ++ x ∷ [])
  settled_more xs x h s = record {
    covers = λ y k. covered y (among_append y xs (x ∷ []) k);
    straight = λ y k. never y (among_append y xs (x ∷ []) k);
  }
    where
      covered : (y : Name) → (is_among y xs ≡ true) ⊎ (is_among y (x ∷ []) ≡ true) → AreAmong (next_names ls y) (xs ++ x ∷ [])
      covered y (inl k) z j = among_first z xs (x ∷ []) (s.covers y k z j)
      covered y (inr k) z j = among_first z xs (x ∷ []) (h z (ap (λ v. is_among z (next_names ls v)) (sym (one y x k)) ∙ j))

      never : (y : Name) → (is_among y xs ≡ true) ⊎ (is_among y (x ∷ []) ≡ true) → IsCircular ls y → ⊥
      never y (inl k) c = s.straight y k c
      never y (inr k) c =
          let start : AreAmong (next_names ls y) xs = λ z j. h z (ap (λ v. is_among z (next_names ls v)) (sym (one y x k)) ∙ j) in
          s.straight y (stays ls xs s.covers y y c.0 start c.1) c

  -- a name that was put in, or that was there
  pub settled_with : (b : Bool) (xs ys : List Name) (x : Name) → (b ≡ true → ys ≡ xs ++ x ∷ []) → (b ≡ false → ys ≡ xs) → all_among (next_names ls x) xs ≡ true → AreSettled ls xs → AreSettled ls ys
  settled_with true xs ys x new same h s = rw (new refl) (settled_more xs x (each_among (next_names ls x) xs h) s)
  settled_with false xs ys x new same h s = rw (same refl) s
