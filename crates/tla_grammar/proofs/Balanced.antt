-- A count of open brackets finds whether a token is inside EXCEPT.
use Rattle.std.proofs.Common.{◌≡◌, ◌≤◌, ◌<◌, ◌↔◌, ◌⊎◌, ℕ, zero, suc, Bool, true, false, Option, Some, None, List, [], ◌∷◌, inl, inr, slice_get, length, refl, sym, ap, ◌∙◌, subst, arith}
use Rattle.std.proofs.lemmas.Bool.{cases_lt}
use Rattle.std.proofs.lemmas.Option.{same_Some}
use Rattle.tla_lex.specs.declared.token.Token.{Token}
use Rattle.tla_lex.specs.declared.token.Kind.{Kind}
use Rattle.tla_lex.specs.declared.token.Kind.TheVariants as k
use Rattle.tla_grammar.specs.Kinds.{role_of}
use Rattle.tla_grammar.specs.LeftOut.{is_bracket, HasRole, IsNoBracket, IsBalanced, nothing, no_bracket, brackets, ClosesAround, IsInExcept}
use Rattle.tla_grammar.specs.Tokens.{KindAt}
use Rattle.tla_grammar.specs.declared.ahead.Role.{Role}
use Rattle.tla_grammar.specs.declared.ahead.Role.TheVariants as role

abbrev pub one_less : ℕ → Option ℕ
one_less zero = None
one_less (suc n) = Some n

-- how many brackets are open after a token, given how many are open before it: None if it closes one that isn't open
abbrev pub after_role : Role → ℕ → Option ℕ
after_role role.Opens n = Some (suc n)
after_role role.Closes n = one_less n
after_role _ n = Some n

abbrev pub open_after : Kind → ℕ → Option ℕ
open_after kind n = after_role (role_of kind) n

no_change : (r : Role) (n : ℕ) → is_bracket r ≡ false → after_role r n ≡ Some n
no_change role.Opens n h = absurd (let z : ⊥ = cc in z)
no_change role.Closes n h = absurd (let z : ⊥ = cc in z)
no_change role.Plain n h = refl
no_change role.Binds n h = refl
no_change role.Colon n h = refl
no_change role.Separates n h = refl

token_at : (ts : List Token) (at : ℕ) → at < length ts → (t : Token) × (slice_get ts at ≡ Some t)
token_at [] at h = absurd (omega (arith, h))
token_at (t ∷ ts) zero h = (t, refl)
token_at (t ∷ ts) (suc at) h = token_at ts at (omega (arith, h))

module _ (ts : List Token) where
  -- before the token with this number there is an EXCEPT; since then this many brackets were opened that are still
  -- open, and none was closed that was open at it
  abbrev pub IsUnderExcept : ℕ → ℕ → Type 0
  IsUnderExcept zero n = ⊥
  IsUnderExcept (suc at) n = (KindAt ts at k.Except × (n ≡ 0)) ⊎ ((m : ℕ) × IsUnderExcept at m × (t : Token) × (slice_get ts at ≡ Some t) × (open_after t.kind m ≡ Some n))

  -- the same, of the EXCEPT with the number e
  abbrev IsUnder : ℕ → ℕ → ℕ → Type 0
  IsUnder e zero n = ⊥
  IsUnder e (suc at) n = ((at ≡ e) × (n ≡ 0)) ⊎ ((m : ℕ) × IsUnder e at m × (t : Token) × (slice_get ts at ≡ Some t) × (open_after t.kind m ≡ Some n))

  is_under : (at n : ℕ) → IsUnderExcept at n → (e : ℕ) × KindAt ts e k.Except × IsUnder e at n
  is_under zero n h = absurd h
  is_under (suc at) n (inl h) = (at, h.0, inl (refl, h.1))
  is_under (suc at) n (inr (m, h, t, here, after)) = let u = is_under at m h in (u.0, u.1, inr (m, u.2, t, here, after))

  is_under_except : (e at n : ℕ) → KindAt ts e k.Except → IsUnder e at n → IsUnderExcept at n
  is_under_except e zero n x h = absurd h
  is_under_except e (suc at) n x (inl h) = inl (subst (λ i. KindAt ts i k.Except) (sym h.0) x, h.1)
  is_under_except e (suc at) n x (inr (m, h, t, here, after)) = inr (m, is_under_except e at m x h, t, here, after)

  -- ---- a count since EXCEPT
  later : (e at n : ℕ) → IsUnder e at n → e < at
  later e zero n h = absurd h
  later e (suc at) n (inl h) = let same = h.0 in omega (arith, same)
  later e (suc at) n (inr (m, h, t, here, after)) = let less = later e at m h in omega (arith, less)

  one_count : (e at m n : ℕ) → IsUnder e at m → IsUnder e at n → m ≡ n
  one_count e zero m n h g = absurd h
  one_count e (suc at) m n (inl h) (inl g) = h.1 ∙ sym g.1
  one_count e (suc at) m n (inl h) (inr (i, g, t, here, after)) = let less = later e at i g in let same = h.0 in absurd (omega (arith, less, same))
  one_count e (suc at) m n (inr (i, h, t, here, after)) (inl g) = let less = later e at i h in let same = g.0 in absurd (omega (arith, less, same))
  one_count e (suc at) m n (inr (i, h, t, here, after)) (inr (j, g, u, there, then)) =
      let same : i ≡ j = one_count e at i j h g in
      let token : t ≡ u = same_Some t u (sym here ∙ there) in
      same_Some m n (sym after ∙ ap (λ x. open_after x.kind i) token ∙ ap (λ x. open_after u.kind x) same ∙ then)

  -- at each token since, there is one
  counted : (e at n close : ℕ) → IsUnder e at n → e < close → close < at → (m i : ℕ) × IsUnder e close m × (t : Token) × (slice_get ts close ≡ Some t) × (open_after t.kind m ≡ Some i)
  counted e zero n close h l b = absurd h
  counted e (suc at) n close (inl h) l b = let same = h.0 in absurd (omega (arith, same, l, b))
  counted e (suc at) n close (inr (m, h, t, here, after)) l b = elim (cases_lt close at) [
    | inl before ↦ counted e at m close h l before
    | inr late ↦
        let same : at ≡ close = omega (arith, late, b) in
        (m, n, subst (λ i. IsUnder e i m) same h, t, subst (λ i. slice_get ts i ≡ Some t) same here, after)
  ]

  -- balanced tokens leave it as it is
  left_as_is : (e from to m : ℕ) → IsBalanced ts from to → IsUnder e from m → IsUnder e to m
  left_as_is e from to m (nothing at) h = h
  left_as_is e from to m (no_bracket f l (t, here, plain) b) h = left_as_is e (suc f) l m b (inr (m, h, t, here, no_change (role_of t.kind) m plain))
  left_as_is e from to m (brackets f mid l (t, here, opens) b (u, there, closes) c) h =
      let inside : IsUnder e (suc f) (suc m) = inr (m, h, t, here, ap (λ r. after_role r m) opens) in
      let before : IsUnder e mid (suc m) = left_as_is e (suc f) mid (suc m) b inside in
      left_as_is e (suc mid) l m c (inr (suc m, before, u, there, ap (λ r. after_role r (suc m)) closes))

  no_earlier : (from to : ℕ) → IsBalanced ts from to → from ≤ to
  no_earlier from to (nothing at) = omega arith
  no_earlier from to (no_bracket f l t b) = let less = no_earlier (suc f) l b in omega (arith, less)
  no_earlier from to (brackets f mid l t b u c) = let less = no_earlier (suc f) mid b in let more = no_earlier (suc mid) l c in omega (arith, less, more)

  stays_open : (e at n close : ℕ) → IsUnder e at n → close < at → ClosesAround ts e close → ⊥
  stays_open e at n close h b ((u, there, closes), balanced) =
      let less : suc e ≤ close = no_earlier (suc e) close balanced in
      let none : IsUnder e close 0 = left_as_is e (suc e) close 0 balanced (inl (refl, refl)) in
      let (m, i, was, t, here, after) = counted e at n close h (omega (arith, less)) b in
      let zero_open : m ≡ 0 = one_count e close m 0 was none in
      let token : t ≡ u = same_Some t u (sym here ∙ there) in
      let fails : after_role role.Closes 0 ≡ Some i = sym (ap (λ r. after_role r 0) closes) ∙ ap (λ x. open_after x.kind 0) (sym token) ∙ ap (λ x. open_after t.kind x) (sym zero_open) ∙ after in
      (let z : ⊥ = cc in z)

  -- ---- what is open
  joined : (from mid to : ℕ) → IsBalanced ts from mid → IsBalanced ts mid to → IsBalanced ts from to
  joined from mid to (nothing at) c = c
  joined from mid to (no_bracket f l t b) c = no_bracket f to t (joined (suc f) l to b c)
  joined from mid to (brackets f i l t b u d) c = brackets f i to t b u (joined (suc i) l to d c)

  -- this many brackets are open, with balanced tokens between them
  abbrev Opened : ℕ → ℕ → ℕ → Type 0
  Opened zero from at = IsBalanced ts from at
  Opened (suc n) from at = (mid : ℕ) × Opened n from mid × HasRole ts role.Opens mid × IsBalanced ts (suc mid) at

  further : (n from mid to : ℕ) → Opened n from mid → IsBalanced ts mid to → Opened n from to
  further zero from mid to h b = joined from mid to h b
  further (suc n) from mid to (i, h, o, c) b = (i, h, o, joined (suc i) mid to c b)

  -- one token more
  closed : (e at n : ℕ) (t : Token) → IsUnder e at n → Opened n (suc e) at → slice_get ts at ≡ Some t → role_of t.kind ≡ role.Closes → (ClosesAround ts e at → ⊥) → (m : ℕ) × IsUnder e (suc at) m × Opened m (suc e) (suc at)
  closed e at zero t h o here r stays = absurd (stays ((t, here, r), o))
  closed e at (suc n) t h (mid, o, opens, b) here r stays =
      (n, inr (suc n, h, t, here, ap (λ x. after_role x (suc n)) r), further n (suc e) mid (suc at) o (brackets mid at (suc at) opens b (t, here, r) (nothing (suc at))))

  stepped : (e at n : ℕ) (t : Token) → IsUnder e at n → Opened n (suc e) at → slice_get ts at ≡ Some t → (ClosesAround ts e at → ⊥) → (r : Role) → role_of t.kind ≡ r → (m : ℕ) × IsUnder e (suc at) m × Opened m (suc e) (suc at)
  stepped e at n t h o here stays role.Opens r = (suc n, inr (n, h, t, here, ap (λ x. after_role x n) r), (at, o, (t, here, r), nothing (suc at)))
  stepped e at n t h o here stays role.Closes r = closed e at n t h o here r stays
  stepped e at n t h o here stays role.Plain r = (n, inr (n, h, t, here, ap (λ x. after_role x n) r), further n (suc e) at (suc at) o (no_bracket at (suc at) (t, here, ap is_bracket r) (nothing (suc at))))
  stepped e at n t h o here stays role.Binds r = (n, inr (n, h, t, here, ap (λ x. after_role x n) r), further n (suc e) at (suc at) o (no_bracket at (suc at) (t, here, ap is_bracket r) (nothing (suc at))))
  stepped e at n t h o here stays role.Colon r = (n, inr (n, h, t, here, ap (λ x. after_role x n) r), further n (suc e) at (suc at) o (no_bracket at (suc at) (t, here, ap is_bracket r) (nothing (suc at))))
  stepped e at n t h o here stays role.Separates r = (n, inr (n, h, t, here, ap (λ x. after_role x n) r), further n (suc e) at (suc at) o (no_bracket at (suc at) (t, here, ap is_bracket r) (nothing (suc at))))

  -- a count, unless one closes the bracket around EXCEPT
  is_counted : (e at : ℕ) → e < at → at ≤ length ts → ((close : ℕ) → close < at → ClosesAround ts e close → ⊥) → (n : ℕ) × IsUnder e at n × Opened n (suc e) at
  is_counted e zero l w stays = absurd (omega (arith, l))
  is_counted e (suc at) l w stays = elim (cases_lt e at) [
    | inl before ↦
        let (n, h, o) = is_counted e at before (omega (arith, w)) (λ close b c. stays close (omega (arith, b)) c) in
        let (t, here) = token_at ts at (omega (arith, w)) in
        stepped e at n t h o here (λ c. stays at (omega arith) c) (role_of t.kind) refl
    | inr late ↦
        let same : at ≡ e = omega (arith, l, late) in
        (0, inl (same, refl), subst (λ i. IsBalanced ts (suc i) (suc at)) same (nothing (suc at)))
  ]

  -- both say the same of each token, and of the end
  pub in_except : (at : ℕ) → at ≤ length ts → ((n : ℕ) × IsUnderExcept at n) ↔ IsInExcept ts at
  in_except at w = (
    λ h.
        let u = is_under at h.0 h.1 in
        (u.0, later u.0 at h.0 u.2, u.1, λ close b c. stays_open u.0 at h.0 close u.2 b c),
    λ x.
        let c = is_counted x.0 at x.1 w x.3 in
        (c.0, is_under_except x.0 at c.0 x.2 c.1),
  )
