-- A list of names, found name by name.
use Rattle.std.proofs.Common.{◌≡◌, ℕ, ◌+◌, List, [], ◌∷◌, ◌++◌, Some, ◌⊎◌, inl, inr, refl, sym, ap, subst, ◌∙◌, append_assoc, arith}
use Rattle.tla_lex.specs.declared.token.Kind.TheVariants as k
use Rattle.tla_lex.specs.declared.token.Token.{Token}
use Rattle.tla_tree.specs.declared.word.Written.{Written}
use Rattle.tla_config.specs.Configuration.{Has, IsName, Names}
use Rattle.tla_config.specs.Private.Gives.{Ends, GoesOn, AreNames, NoNames}
use Rattle.tla_config.proofs.Fronts.{one_name, comma_no_name}

module _ (text : List ℕ) (ts : List Token) where
  -- these names stand between two tokens: whatever names begin at the second, they and these stand from the first,
  -- and no others do
  pub record NamesSoFar (front : List Written) (from at : ℕ) : Type 0 where
    pub whole : (w : Written) (ws : List Written) (to : ℕ) → Names text ts (w ∷ ws) at to → Names text ts (front ++ w ∷ ws) from to
    pub rest : (ws : List Written) (to : ℕ) → Names text ts ws from to → Ends text ts to → (vs : List Written) × (ws ≡ front ++ vs) × Names text ts vs at to

  pub so_far_none : (from : ℕ) → NamesSoFar [] from from
  so_far_none from = record { whole = λ w ws to x. x; rest = λ ws to x e. (ws, refl, x) }

  names_head : (u : Written) (us : List Written) (at to : ℕ) → Names text ts (u ∷ us) at to → IsName text ts u at
  names_head u [] at to x = x.0
  names_head u (v ∷ vs) at to x = x.0

  -- between two names stands a comma or nothing
  abbrev pub Between : ℕ → ℕ → Type 0
  Between end at = (at ≡ end) ⊎ (Has text ts k.Comma end × (at ≡ end + 1))

  -- where the next name is told to stand, it stands
  pub same_next : (u : Written) (end next at : ℕ) → GoesOn text ts end (Some next) → Between end at → IsName text ts u at → at ≡ next
  same_next u end next at (inl c) (inl e) n = absurd (comma_no_name text ts u end c.0 (subst (λ m. IsName text ts u m) e n))
  same_next u end next at (inl c) (inr d) n = d.1 ∙ sym c.1
  same_next u end next at (inr v) (inl e) n = e ∙ sym v.1
  same_next u end next at (inr v) (inr d) n = absurd (comma_no_name text ts v.0.0 end d.0 v.0.1)

  pub goes_on_ends : (end next : ℕ) → GoesOn text ts end (Some next) → Ends text ts end → ⊥
  goes_on_ends end next (inl c) e = e.no_comma c.0
  goes_on_ends end next (inr v) e = e.no_name v.0.0 v.0.1

  ends_no_more : (u : Written) (us : List Written) (end at to : ℕ) → Ends text ts end → Between end at → Names text ts (u ∷ us) at to → ⊥
  ends_no_more u us end at to e (inl d) x = e.no_name u (subst (λ m. IsName text ts u m) d (names_head u us at to x))
  ends_no_more u us end at to e (inr d) x = e.no_comma d.0

  two_more : (end : ℕ) → (end + 1) + 1 ≡ end + 2
  two_more end = omega arith

  between : (from at : ℕ) → ((at ≡ from + 1) ⊎ (Has text ts k.Comma (from + 1) × (at ≡ from + 2))) → Between (from + 1) at
  between from at (inl e) = inl e
  between from at (inr d) = inr (d.0, d.1 ∙ sym (two_more from))

  goes_between : (from next : ℕ) → GoesOn text ts (from + 1) (Some next) → (next ≡ from + 1) ⊎ (Has text ts k.Comma (from + 1) × (next ≡ from + 2))
  goes_between from next (inl c) = inr (c.0, c.1 ∙ two_more from)
  goes_between from next (inr v) = inl v.1

  more_rest : (w : Written) (vs : List Written) (at next to : ℕ) → IsName text ts w at → GoesOn text ts (at + 1) (Some next) → Names text ts vs at to → Ends text ts to
      → (us : List Written) × (vs ≡ w ∷ us) × Names text ts us next to
  more_rest w [] at next to n g x e = absurd x
  more_rest w (v ∷ []) at next to n g x e = absurd (goes_on_ends (at + 1) next g (subst (λ m. Ends text ts m) x.1 e))
  more_rest w (v ∷ u ∷ us) at next to n g x e =
      let h : x.1 ≡ next = same_next u (at + 1) next x.1 g (between at x.1 x.2) (names_head u us x.1 to x.3) in
      (u ∷ us, ap (λ y. y ∷ u ∷ us) (one_name text ts at v w x.0 n), subst (λ m. Names text ts (u ∷ us) m to) h x.3)

  last_rest : (w : Written) (vs : List Written) (at to : ℕ) → IsName text ts w at → Ends text ts (at + 1) → Names text ts vs at to → (vs ≡ w ∷ []) × (to ≡ at + 1)
  last_rest w [] at to n e x = absurd x
  last_rest w (v ∷ []) at to n e x = (ap (λ y. y ∷ []) (one_name text ts at v w x.0 n), x.1)
  last_rest w (v ∷ u ∷ us) at to n e x = absurd (ends_no_more u us (at + 1) x.1 to e (between at x.1 x.2) x.3)

  none_rest : (vs : List Written) (at to : ℕ) → ((w : Written) → IsName text ts w at → ⊥) → Names text ts vs at to → ⊥
  none_rest [] at to fails x = x
  none_rest (v ∷ vs) at to fails x = fails v (names_head v vs at to x)

  pub so_far_more : (front : List Written) (from at next : ℕ) (w : Written) → NamesSoFar front from at → IsName text ts w at → GoesOn text ts (at + 1) (Some next)
      → NamesSoFar (front ++ w ∷ []) from next
  so_far_more front from at next w so n g = record {
    whole = λ v vs to x. rw append_assoc (so.whole w (v ∷ vs) to (n, next, goes_between at next g, x));
    rest = λ ws to x e.
        let r = so.rest ws to x e in
        let m = more_rest w r.0 at next to n g r.2 e in
        (m.0, r.1 ∙ ap (λ y. front ++ y) m.1 ∙ sym (append_assoc front (w ∷ []) m.0), m.2);
  }

  pub so_far_last : (front : List Written) (from at : ℕ) (w : Written) → NamesSoFar front from at → IsName text ts w at → Ends text ts (at + 1)
      → AreNames text ts (front ++ w ∷ []) from (at + 1)
  so_far_last front from at w so n e = record {
    spelled = so.whole w [] (at + 1) (n, refl);
    only = λ vs end x f.
        let r = so.rest vs end x f in
        let m = last_rest w r.0 at end n e r.2 in
        (r.1 ∙ ap (λ y. front ++ y) m.0, m.1);
  }

  pub so_far_no_name : (front : List Written) (from at : ℕ) → NamesSoFar front from at → ((w : Written) → IsName text ts w at → ⊥) → NoNames text ts from
  so_far_no_name front from at so fails = λ ws to x e. let r = so.rest ws to x e in none_rest r.0 at to fails r.2
