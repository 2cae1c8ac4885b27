-- The items of a list: how the reading goes on and stops, and what it says of them.
use Rattle.std.proofs.Common.{◌≡◌, ℕ, zero, suc, ◌+◌, ◌-◌, ◌<◌, ◌≤◌, inl, inr, length, List, [], ◌∷◌, ◌++◌, Option, Some, None, Ok, Err, refl, sym, ◌∙◌, append_assoc, arith, add-one, subst}
use Rattle.tla_lex.specs.declared.token.Token.{Token}
use Rattle.tla_grammar.specs.declared.refusal.Refusal.{Refusal}
use Rattle.tla_grammar.specs.Outcome.{Outcome, Refused, ◌>>=◌, at_op, sequence}
use Rattle.tla_grammar.specs.Refusals.{Fails}
use Rattle.tla_grammar.proofs.Inversion.{ok_to, bind_ok, at_op_ok}
use Rattle.tla_grammar.proofs.Fails.{fails_bind}

module _ {A : Type 0} (item : ℕ → Outcome A) (next : ℕ → Option ℕ) where
  pub sequence_is : (n m : ℕ) (front : List A) (at : ℕ) → n ≡ m + 1
      → sequence item next n front at ≡ (item at >>= λ x after. at_op (next after) (Ok (front ++ x ∷ [], after)) (sequence item next m (front ++ x ∷ [])))
  unfolding sequence
  sequence_is n m front at h = rw (h, add-one) refl

  pub sequence_more : (n m : ℕ) (front : List A) (at : ℕ) (x : A) (after start : ℕ) → n ≡ m + 1 → item at ≡ Ok (x, after) → next after ≡ Some start
      → sequence item next n front at ≡ sequence item next m (front ++ x ∷ []) start
  sequence_more n m front at x after start h p q = rw (sequence_is n m front at h, p, q) refl

  pub sequence_last : (n m : ℕ) (front : List A) (at : ℕ) (x : A) (after : ℕ) → n ≡ m + 1 → item at ≡ Ok (x, after) → next after ≡ None
      → sequence item next n front at ≡ Ok (front ++ x ∷ [], after)
  sequence_last n m front at x after h p q = rw (sequence_is n m front at h, p, q) refl

  pub sequence_full : (n : ℕ) (front : List A) (at : ℕ) → n ≡ 0 → sequence item next n front at ≡ Err Refused
  unfolding sequence
  sequence_full n front at z = rw z refl

  pub sequence_fails : (text : List ℕ) (ts : List Token) (e : Refusal) (n m : ℕ) (front : List A) (at : ℕ) → n ≡ m + 1 → Fails text ts e (item at) → Fails text ts e (sequence item next n front at)
  sequence_fails text ts e n m front at h f =
      let P : Outcome (List A) → Type 0 = λ y. Fails text ts e y in
      subst P (sym (sequence_is n m front at h)) (fails_bind text ts e (item at) _ f)

-- the items stand one after the other, with what is between them, and nothing goes on after the last
module _ {A : Type 0} (P : A → ℕ → ℕ → Type 0) (next : ℕ → Option ℕ) where
  abbrev pub Behind : List A → ℕ → ℕ → Type 0
  Behind [] from to = (next from ≡ None) × (to ≡ from)
  Behind (x ∷ xs) from to = (start mid : ℕ) × (next from ≡ Some start) × P x start mid × Behind xs mid to

  abbrev pub Follows : List A → ℕ → ℕ → Type 0
  Follows [] from to = ⊥
  Follows (x ∷ xs) from to = (mid : ℕ) × P x from mid × Behind xs mid to

  pub behind_all : (xs : List A) (from start to : ℕ) → next from ≡ Some start → Follows xs start to → Behind xs from to
  behind_all [] from start to h f = absurd f
  behind_all (x ∷ xs) from start to h f = (start, f.0, h, f.1, f.2)

  abbrev pub Read : List A → ℕ → List A × ℕ → Type 0
  Read front at z = (xs : List A) × (z.0 ≡ front ++ xs) × Follows xs at z.1

  pub sequence_sound : (item : ℕ → Outcome A) → ((at : ℕ) (x : A) (after : ℕ) → item at ≡ Ok (x, after) → P x at after)
      → (n : ℕ) (front : List A) (at : ℕ) (z : List A × ℕ) → sequence item next n front at ≡ Ok z → Read front at z
  unfolding sequence
  sequence_sound item good zero front at z h = absurd (let z : ⊥ = cc in z)
  sequence_sound item good (suc n) front at z h =
      let x = bind_ok (item at) _ z h in
      let p = good at x.0 x.1 x.2 in
      elim (at_op_ok (next x.1) (Ok (front ++ x.0 ∷ [], x.1)) (sequence item next n (front ++ x.0 ∷ [])) z x.3) [
        | inl w ↦ ok_to (front ++ x.0 ∷ [], x.1) z w.1 (Read front at) (x.0 ∷ [], refl, (x.1, p, (w.0, refl)))
        | inr w ↦
            let r = sequence_sound item good n (front ++ x.0 ∷ []) w.0 z w.2 in
            (x.0 ∷ r.0, r.1 ∙ append_assoc front (x.0 ∷ []) r.0, (x.1, p, behind_all r.0 x.1 w.0 z.1 w.1 r.2))
      ]

  -- at most as many items as tokens
  pub behind_fit : ((x : A) (from to : ℕ) → P x from to → from < to) → ((from start : ℕ) → next from ≡ Some start → from ≤ start) → (xs : List A) (from to : ℕ) → Behind xs from to → length xs + from ≤ to
  behind_fit p q [] from to x = omega (arith, x.1)
  behind_fit p q (y ∷ ys) from to x =
      let a = q from x.0 x.2 in
      let b = p y x.0 x.1 x.3 in
      let c = behind_fit p q ys x.1 to x.4 in omega (arith, a, b, c)

  pub follows_fit : ((x : A) (from to : ℕ) → P x from to → from < to) → ((from start : ℕ) → next from ≡ Some start → from ≤ start) → (xs : List A) (from to : ℕ) → Follows xs from to → length xs + from ≤ to
  follows_fit p q [] from to x = absurd x
  follows_fit p q (y ∷ ys) from to x =
      let b = p y from x.0 x.1 in
      let c = behind_fit p q ys x.0 to x.2 in omega (arith, b, c)

  pub sequence_complete : (item : ℕ → Outcome A) → ((x : A) (at after : ℕ) → P x at after → item at ≡ Ok (x, after))
      → (xs : List A) (n : ℕ) (front : List A) (from to : ℕ) → Follows xs from to → length xs ≤ n → sequence item next n front from ≡ Ok (front ++ xs, to)
  sequence_complete item good [] n front from to f l = absurd f
  sequence_complete item good (x ∷ []) n front from to f l =
      let r = good x from f.0 f.1 in
      sequence_last item next n (n - 1) front from x f.0 (omega (arith, l)) r f.2.0 ∙ rw f.2.1 refl
  sequence_complete item good (x ∷ y ∷ ys) n front from to f l =
      let r = good x from f.0 f.1 in
      let g = f.2 in
      sequence_more item next n (n - 1) front from x f.0 g.0 (omega (arith, l)) r g.2
      ∙ sequence_complete item good (y ∷ ys) (n - 1) (front ++ x ∷ []) g.0 to (g.1, g.3, g.4) (omega (arith, l))
      ∙ rw (append_assoc front (x ∷ []) (y ∷ ys)) refl
