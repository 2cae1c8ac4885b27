-- Names with commas between them: how the reading goes on and stops, and what it says of them.
use Rattle.std.proofs.Common.{◌≡◌, ℕ, zero, suc, ◌+◌, ◌-◌, ◌<◌, ◌≤◌, true, false, inl, inr, length, List, [], ◌∷◌, ◌++◌, Some, None, Ok, Err, refl, ◌∙◌, append_assoc, arith, add-one}
use Rattle.std.proofs.lemmas.Option.{slice_get_within}
use Rattle.tla_lex.specs.declared.token.Token.{Token}
use Rattle.tla_lex.specs.declared.token.Kind.TheVariants as k
use Rattle.tla_tree.specs.declared.word.Written.{Written}
use Rattle.tla_tree.specs.Words.{written}
use Rattle.tla_grammar.specs.Tokens.{seen, Has, Writes, Names}
use Rattle.tla_grammar.specs.Kinds.{kind_at}
use Rattle.tla_grammar.specs.Outcome.{Refused}
use Rattle.tla_grammar.specs.Marks.{name_at}
use Rattle.tla_expressions.specs.ReadingLists.{names}
use Rattle.tla_grammar.proofs.Inversion.{ok_to, at_op_ok, choice_ok, has_kind, has_name, seen_is}

module _ (text : List ℕ) (ts : List Token) where
  pub names_more : (n m : ℕ) (front : List Written) (column at : ℕ) (t : Token) → n ≡ m + 1 → name_at (seen ts column at) ≡ Some t → kind_at k.Comma (seen ts column (at + 1)) ≡ true
      → names text ts n front column at ≡ names text ts m (front ++ written text t ∷ []) column (at + 2)
  unfolding names
  names_more n m front column at t h p q = rw (h, add-one, p, q) refl

  pub names_last : (n m : ℕ) (front : List Written) (column at : ℕ) (t : Token) → n ≡ m + 1 → name_at (seen ts column at) ≡ Some t → kind_at k.Comma (seen ts column (at + 1)) ≡ false
      → names text ts n front column at ≡ Ok (front ++ written text t ∷ [], at + 1)
  unfolding names
  names_last n m front column at t h p q = rw (h, add-one, p, q) refl

  pub names_none : (n m : ℕ) (front : List Written) (column at : ℕ) → n ≡ m + 1 → name_at (seen ts column at) ≡ None → names text ts n front column at ≡ Err Refused
  unfolding names
  names_none n m front column at h p = rw (h, add-one, p) refl

  pub names_full : (n : ℕ) (front : List Written) (column at : ℕ) → n ≡ 0 → names text ts n front column at ≡ Err Refused
  unfolding names
  names_full n front column at z = rw z refl

  pub names_cons : (column : ℕ) (w : Written) (ws : List Written) (at to : ℕ) → Writes ts text column k.Name w at → Has ts column k.Comma (at + 1) → Names ts text column ws (at + 2) to
      → Names ts text column (w ∷ ws) at to
  names_cons column w [] at to x c h = absurd h
  names_cons column w (v ∷ ws) at to x c h = (x, c, h)

  abbrev pub Named : ℕ → List Written → ℕ → List Written × ℕ → Type 0
  Named column front at z = (ws : List Written) × (z.0 ≡ front ++ ws) × Names ts text column ws at z.1

  pub names_sound : (n : ℕ) (front : List Written) (column at : ℕ) (z : List Written × ℕ) → names text ts n front column at ≡ Ok z → Named column front at z
  unfolding names
  names_sound zero front column at z h = absurd (let z : ⊥ = cc in z)
  names_sound (suc n) front column at z h = elim (at_op_ok (name_at (seen ts column at)) (Err Refused) _ z h) [
    | inl w ↦ absurd (let z : ⊥ = cc in z)
    | inr w ↦
        let x = has_name ts text column at w.0 w.1 in
        let v = written text w.0 in
        elim (choice_ok (kind_at k.Comma (seen ts column (at + 1))) (names text ts n (front ++ v ∷ []) column (at + 2)) (Ok (front ++ v ∷ [], at + 1)) (Ok z) w.2) [
          | inl c ↦
              let r = names_sound n (front ++ v ∷ []) column (at + 2) z c.1 in
              (v ∷ r.0, r.1 ∙ append_assoc front (v ∷ []) r.0, names_cons column v r.0 at z.1 x (has_kind ts column (at + 1) k.Comma c.0) r.2)
          | inr c ↦ ok_to (front ++ v ∷ [], at + 1) z c.1 (Named column front at) (v ∷ [], refl, (x, refl))
        ]
  ]

  pub seen_within : (column at : ℕ) (t : Token) → seen ts column at ≡ Some t → at < length ts
  seen_within column at t h = slice_get_within ts at t (seen_is ts column at t h)

  pub names_fit : (ws : List Written) (column from to : ℕ) → Names ts text column ws from to → length ws + from ≤ to
  names_fit [] column from to x = absurd x
  names_fit (w ∷ []) column from to x = omega (arith, x.1)
  names_fit (w ∷ v ∷ ws) column from to x = let h = names_fit (v ∷ ws) column (from + 2) to x.2 in omega (arith, h)

  pub names_within : (ws : List Written) (column from to : ℕ) → Names ts text column ws from to → to ≤ length ts
  names_within [] column from to x = absurd x
  names_within (w ∷ []) column from to x = let h = seen_within column from x.0.0 x.0.1 in omega (arith, h, x.1)
  names_within (w ∷ v ∷ ws) column from to x = names_within (v ∷ ws) column (from + 2) to x.2

  pub named : (column at : ℕ) (w : Written) (x : Writes ts text column k.Name w at) → name_at (seen ts column at) ≡ Some x.0
  named column at w x = rw (x.1, x.2) refl

  pub names_complete : (ws : List Written) (front : List Written) (column from to fuel : ℕ) → Names ts text column ws from to → kind_at k.Comma (seen ts column to) ≡ false → length ws ≤ fuel
      → names text ts fuel front column from ≡ Ok (front ++ ws, to)
  names_complete [] front column from to fuel x c l = absurd x
  names_complete (w ∷ []) front column from to fuel x c l =
      let after : kind_at k.Comma (seen ts column (from + 1)) ≡ false = rw (← x.1) c in
      names_last fuel (fuel - 1) front column from x.0.0 (omega (arith, l)) (named column from w x.0) after ∙ rw (x.0.3, x.1) refl
  names_complete (w ∷ v ∷ ws) front column from to fuel x c l =
      let comma : kind_at k.Comma (seen ts column (from + 1)) ≡ true = rw (x.1.1, x.1.2) refl in
      names_more fuel (fuel - 1) front column from x.0.0 (omega (arith, l)) (named column from w x.0) comma
      ∙ names_complete (v ∷ ws) (front ++ written text x.0.0 ∷ []) column (from + 2) to (fuel - 1) x.2 c (omega (arith, l))
      ∙ rw (append_assoc front (written text x.0.0 ∷ []) (v ∷ ws), x.0.3) refl
