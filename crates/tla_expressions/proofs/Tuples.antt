-- What stands before `\in`: how it is read, and where it ends.
use Rattle.std.proofs.Common.{◌≡◌, ℕ, zero, suc, ◌+◌, ◌-◌, ◌≤◌, true, false, inl, inr, length, List, [], ◌∷◌, Option, Some, None, Ok, Err, refl, ◌∙◌, arith}
use Rattle.std.specs.Prelude.{is_none}
use Rattle.tla_lex.specs.declared.token.Token.{Token}
use Rattle.tla_lex.specs.declared.token.Kind.TheVariants as k
use Rattle.tla_tree.specs.declared.word.Written.{Written}
use Rattle.tla_tree.specs.Words.{written}
use Rattle.tla_tree.specs.Tree.{Pattern, Each, Tuple}
use Rattle.tla_grammar.specs.Tokens.{seen, Has, Names}
use Rattle.tla_grammar.specs.Entries.{is_single, Binds, BeginsEntry}
use Rattle.tla_grammar.specs.Kinds.{kind_at}
use Rattle.tla_grammar.specs.Outcome.{Refused}
use Rattle.tla_grammar.specs.Marks.{name_at}
use Rattle.tla_expressions.specs.ReadingLists.{names, tuple_of_names, pattern, single}
use Rattle.tla_grammar.specs.Ahead.{tuple_end, single_end, if_member, binds}
use Rattle.tla_grammar.proofs.Inversion.{ok_to, bind_ok, need_ok, at_op_ok, choice_ok, has_kind, has_name}
use Rattle.tla_grammar.proofs.TupleEnds.{tuple_more, tuple_last}
use Rattle.tla_expressions.proofs.NameLists.{names_cons, names_fit, names_within, names_sound, names_complete}

module _ (text : List ℕ) (ts : List Token) where
  names_first : (ws : List Written) (column from to : ℕ) → Names ts text column ws from to → Has ts column k.Name from
  names_first [] column from to x = absurd x
  names_first (w ∷ []) column from to x = (x.0.0, x.0.1, x.0.2)
  names_first (w ∷ v ∷ ws) column from to x = (x.0.0, x.0.1, x.0.2)

  pub pattern_rise : (w : Pattern) (column from to : ℕ) → Binds text ts column w from to → from ≤ to
  pattern_rise (Each ws) column from to x = let h = names_fit text ts ws column from to x in omega (arith, h)
  pattern_rise (Tuple ws) column from to x = let h = names_fit text ts ws column (from + 1) x.0 x.2 in omega (arith, h, x.4)

  -- it begins with a name or with `<<`, so with no brace
  pub no_brace : (w : Pattern) (column from to : ℕ) → Binds text ts column w from to → kind_at k.RightBrace (seen ts column from) ≡ false
  no_brace (Each ws) column from to x = let h = names_first ws column from to x in rw (h.1, h.2) refl
  no_brace (Tuple ws) column from to x = rw (x.1.1, x.1.2) refl

  -- ---- reading

  tuple_complete : (ws : List Written) (column from to : ℕ) → Binds text ts column (Tuple ws) from to → tuple_of_names text ts column (from + 1) ≡ Ok (Tuple ws, to)
  unfolding tuple_of_names
  tuple_complete ws column from to x =
      let no_comma : kind_at k.Comma (seen ts column x.0) ≡ false = rw (x.3.1, x.3.2) refl in
      let fit = names_fit text ts ws column (from + 1) x.0 x.2 in
      let end = names_within text ts ws column (from + 1) x.0 x.2 in
      let c = names_complete text ts ws [] column (from + 1) x.0 (length ts) x.2 no_comma (omega (arith, fit, end)) in
      rw (c, x.3.1, x.3.2, x.4) refl

  pub pattern_complete : (w : Pattern) (column from to : ℕ) → Binds text ts column w from to → kind_at k.Comma (seen ts column to) ≡ false → pattern text ts column from ≡ Ok (w, to)
  unfolding pattern
  pattern_complete (Each ws) column from to x no_comma =
      let h = names_first ws column from to x in
      let fit = names_fit text ts ws column from to x in
      let end = names_within text ts ws column from to x in
      let c = names_complete text ts ws [] column from to (length ts) x no_comma (omega (arith, fit, end)) in
      rw (h.1, h.2, c) refl
  pattern_complete (Tuple ws) column from to x no_comma = rw (x.1.1, x.1.2, tuple_complete ws column from to x) refl

  pub single_complete : (w : Pattern) (column from to : ℕ) → is_single w ≡ true → Binds text ts column w from to → single text ts column from ≡ Ok (w, to)
  unfolding single
  single_complete (Each []) column from to h x = absurd x
  single_complete (Each (w ∷ [])) column from to h x = rw (x.0.1, x.0.2, x.0.3, x.1) refl
  single_complete (Each (w ∷ v ∷ ws)) column from to h x = absurd (let z : ⊥ = cc in z)
  single_complete (Tuple ws) column from to h x = rw (x.1.1, x.1.2, tuple_complete ws column from to x) refl

  -- what is read is one element at most
  abbrev pub SingleAt : ℕ → ℕ → Pattern × ℕ → Type 0
  SingleAt column at z = Binds text ts column z.0 at z.1 × (is_single z.0 ≡ true)

  tuple_sound : (column at : ℕ) (z : Pattern × ℕ) → Has ts column k.LeftTuple at → tuple_of_names text ts column (at + 1) ≡ Ok z → SingleAt column at z
  unfolding tuple_of_names
  tuple_sound column at z b h =
      let x = bind_ok (names text ts (length ts) [] column (at + 1)) _ z h in
      let n = need_ok (kind_at k.RightTuple (seen ts column x.1)) _ z x.3 in
      let r = names_sound text ts (length ts) [] column (at + 1) (x.0, x.1) x.2 in
      ok_to (Tuple x.0, x.1 + 1) z n.1 (SingleAt column at) ((x.1, b, rw r.1 r.2, has_kind ts column x.1 k.RightTuple n.0, refl), refl)

  pub pattern_sound : (column at : ℕ) (z : Pattern × ℕ) → pattern text ts column at ≡ Ok z → Binds text ts column z.0 at z.1
  unfolding pattern
  pattern_sound column at z h = elim (choice_ok (kind_at k.LeftTuple (seen ts column at)) _ _ (Ok z) h) [
    | inl w ↦ (tuple_sound column at z (has_kind ts column at k.LeftTuple w.0) w.1).0
    | inr w ↦
        let x = bind_ok (names text ts (length ts) [] column at) _ z w.1 in
        let r = names_sound text ts (length ts) [] column at (x.0, x.1) x.2 in
        ok_to (Each x.0, x.1) z x.3 (λ v. Binds text ts column v.0 at v.1) (rw r.1 r.2)
  ]

  pub single_sound : (column at : ℕ) (z : Pattern × ℕ) → single text ts column at ≡ Ok z → SingleAt column at z
  unfolding single
  single_sound column at z h = elim (choice_ok (kind_at k.LeftTuple (seen ts column at)) _ _ (Ok z) h) [
    | inl w ↦ tuple_sound column at z (has_kind ts column at k.LeftTuple w.0) w.1
    | inr w ↦ (elim (at_op_ok (name_at (seen ts column at)) (Err Refused) _ z w.1) [
      | inl v ↦ absurd (let z : ⊥ = cc in z)
      | inr v ↦ ok_to (Each (written text v.0 ∷ []), at + 1) z v.2 (SingleAt column at) ((has_name ts text column at v.0 v.1, refl), refl)
    ])
  ]

  -- ---- where `\in` stands

  end_complete : (ws : List Written) (column from mid fuel : ℕ) → Names ts text column ws from mid → Has ts column k.RightTuple mid → length ws ≤ fuel → tuple_end ts column fuel from ≡ Some (mid + 1)
  end_complete [] column from mid fuel x r l = absurd x
  end_complete (w ∷ []) column from mid fuel x r l =
      let here : Has ts column k.RightTuple (from + 1) = rw (← x.1) r in
      let n : kind_at k.Name (seen ts column from) ≡ true = rw (x.0.1, x.0.2) refl in
      let c : kind_at k.Comma (seen ts column (from + 1)) ≡ false = rw (here.1, here.2) refl in
      let e : kind_at k.RightTuple (seen ts column (from + 1)) ≡ true = rw (here.1, here.2) refl in
      let q : from + 2 ≡ mid + 1 = omega (arith, x.1) in
      tuple_last ts fuel (fuel - 1) column from (omega (arith, l)) n c e ∙ rw q refl
  end_complete (w ∷ v ∷ ws) column from mid fuel x r l =
      let n : kind_at k.Name (seen ts column from) ≡ true = rw (x.0.1, x.0.2) refl in
      let c : kind_at k.Comma (seen ts column (from + 1)) ≡ true = rw (x.1.1, x.1.2) refl in
      tuple_more ts fuel (fuel - 1) column from (omega (arith, l)) n c ∙ end_complete (v ∷ ws) column (from + 2) mid (fuel - 1) x.2 r (omega (arith, l))

  single_ends : (w : Pattern) (column from to : ℕ) → is_single w ≡ true → Binds text ts column w from to → single_end ts column from ≡ Some to
  single_ends (Each []) column from to h x = absurd x
  single_ends (Each (w ∷ [])) column from to h x = rw (x.0.1, x.0.2, x.1) refl
  single_ends (Each (w ∷ v ∷ ws)) column from to h x = absurd (let z : ⊥ = cc in z)
  single_ends (Tuple ws) column from to h x =
      let fit = names_fit text ts ws column (from + 1) x.0 x.2 in
      let end = names_within text ts ws column (from + 1) x.0 x.2 in
      let e = end_complete ws column (from + 1) x.0 (length ts) x.2 x.3 (omega (arith, fit, end)) in
      rw (x.1.1, x.1.2, e, x.4) refl

  pub binds_complete : (w : Pattern) (column from m : ℕ) → is_single w ≡ true → Binds text ts column w from m → Has ts column k.Member m → binds ts column from ≡ Some m
  binds_complete w column from m h x y = let e = single_ends w column from m h x in rw (e, y.1, y.2) refl

  end_sound : (n column at e : ℕ) → tuple_end ts column n at ≡ Some e → (ws : List Written) × (mid : ℕ) × Names ts text column ws at mid × Has ts column k.RightTuple mid × (e ≡ mid + 1)
  unfolding tuple_end
  end_sound zero column at e h = absurd (let z : ⊥ = cc in z)
  end_sound (suc n) column at e h = elim (choice_ok (kind_at k.Name (seen ts column at)) _ None (Some e) h) [
    | inl w ↦
        let name = has_kind ts column at k.Name w.0 in
        let v = written text name.0 in
        elim (choice_ok (kind_at k.Comma (seen ts column (at + 1))) (tuple_end ts column n (at + 2)) _ (Some e) w.1) [
          | inl c ↦
              let r = end_sound n column (at + 2) e c.1 in
              (v ∷ r.0, r.1, names_cons text ts column v r.0 at r.1 (name.0, name.1, name.2, refl) (has_kind ts column (at + 1) k.Comma c.0) r.2, r.3, r.4)
          | inr c ↦ (elim (choice_ok (kind_at k.RightTuple (seen ts column (at + 1))) (Some (at + 2)) None (Some e) c.1) [
            | inl r ↦
                let same : at + 2 ≡ e = cc in
                (v ∷ [], at + 1, ((name.0, name.1, name.2, refl), refl), has_kind ts column (at + 1) k.RightTuple r.0, omega (arith, same))
            | inr r ↦ absurd (let z : ⊥ = cc in z)
          ])
        ]
    | inr w ↦ absurd (let z : ⊥ = cc in z)
  ]

  member_is : (o : Option ℕ) (column m : ℕ) → if_member ts column o ≡ Some m → (o ≡ Some m) × Has ts column k.Member m
  member_is None column m h = absurd (let z : ⊥ = cc in z)
  member_is (Some a) column m h = elim (choice_ok (kind_at k.Member (seen ts column a)) (Some a) None (Some m) h) [
    | inl w ↦ (let same : a ≡ m = cc in (w.1, rw (← same) (has_kind ts column a k.Member w.0)))
    | inr w ↦ absurd (let z : ⊥ = cc in z)
  ]

  single_by : (column at m : ℕ) → single_end ts column at ≡ Some m → (w : Pattern) × (is_single w ≡ true) × Binds text ts column w at m
  single_by column at m h = elim (choice_ok (kind_at k.Name (seen ts column at)) (Some (at + 1)) _ (Some m) h) [
    | inl w ↦
        let name = has_kind ts column at k.Name w.0 in
        let same : m ≡ at + 1 = cc in
        (Each (written text name.0 ∷ []), refl, ((name.0, name.1, name.2, refl), same))
    | inr w ↦ (elim (choice_ok (kind_at k.LeftTuple (seen ts column at)) (tuple_end ts column (length ts) (at + 1)) None (Some m) w.1) [
      | inl v ↦ (let r = end_sound (length ts) column (at + 1) m v.1 in (Tuple r.0, refl, (r.1, has_kind ts column at k.LeftTuple v.0, r.2, r.3, r.4)))
      | inr v ↦ absurd (let z : ⊥ = cc in z)
    ])
  ]

  pub binds_sound : (column at m : ℕ) → binds ts column at ≡ Some m → (w : Pattern) × (is_single w ≡ true) × Binds text ts column w at m × Has ts column k.Member m
  binds_sound column at m h =
      let x = member_is (single_end ts column at) column m h in
      let y = single_by column at m x.0 in
      (y.0, y.1, y.2, x.1)

  -- no entry begins where there is no `\in` after one
  pub no_entry : (column at : ℕ) → is_none (binds ts column at) ≡ true → BeginsEntry text ts column at → ⊥
  no_entry column at h x = let e = rw (binds_complete x.0 column at x.1 x.2 x.3 x.4) at h in let z : ⊥ = cc in z

  pub no_binds : (column at : ℕ) → (BeginsEntry text ts column at → ⊥) → binds ts column at ≡ None
  no_binds column at f = by (binds ts column at) refl
    where
      by : (o : Option ℕ) → binds ts column at ≡ o → binds ts column at ≡ None
      by None e = e
      by (Some m) e = let x = binds_sound column at m e in absurd (f (x.0, m, x.1, x.2, x.3))
