-- Going back over tokens, whether they are inside EXCEPT.
use Rattle.std.proofs.Common.{◌≡◌, ◌≤◌, ◌↔◌, ℕ, zero, suc, ◌-◌, ◌+◌, Some, List, length, inl, inr, refl, sym, ap, ◌∙◌, subst, arith}
use Rattle.std.specs.List.{slice_get}
use Rattle.std.proofs.lemmas.Option.{same_Some}
use Rattle.tla_lex.specs.declared.token.Token.{Token}
use Rattle.tla_lex.specs.declared.token.Kind.TheVariants as k
use Rattle.tla_grammar.specs.LeftOut.{IsInExcept}
use Rattle.tla_grammar.proofs.Balanced.{after_role, open_after, IsUnderExcept, in_except}
use Rattle.tla_grammar.specs.Kinds.{role_of}
use Rattle.tla_grammar.specs.Private.Open.{least_before}
use Rattle.tla_grammar.specs.declared.ahead.Role.{Role}
use Rattle.tla_grammar.specs.declared.ahead.Role.TheVariants as role

module _ (ts : List Token) where
  -- after an EXCEPT, since which at least this many brackets were opened and are still open
  abbrev pub IsWithin : ℕ → ℕ → Type 0
  IsWithin at least = (m : ℕ) × (least ≤ m) × IsUnderExcept ts at m

  pub within_any : (at : ℕ) → at ≤ length ts → IsWithin at 0 ↔ IsInExcept ts at
  within_any at w = let same = in_except ts at w in (λ h. same.0 (h.0, h.2), λ x. let h = same.1 x in (h.0, omega arith, h.1))

  pub within_none : (least : ℕ) → IsWithin 0 least → ⊥
  within_none least h = h.2

needed : (r : Role) (least m n : ℕ) → after_role r m ≡ Some n → least ≤ n → least_before r least ≤ m
needed role.Opens least m n h l = let e : suc m ≡ n = same_Some (suc m) n h in omega (arith, e, l)
needed role.Closes least zero n h l = absurd (let z : ⊥ = cc in z)
needed role.Closes least (suc m) n h l = let e : m ≡ n = same_Some m n h in omega (arith, e, l)
needed role.Plain least m n h l = let e : m ≡ n = same_Some m n h in omega (arith, e, l)
needed role.Binds least m n h l = let e : m ≡ n = same_Some m n h in omega (arith, e, l)
needed role.Colon least m n h l = let e : m ≡ n = same_Some m n h in omega (arith, e, l)
needed role.Separates least m n h l = let e : m ≡ n = same_Some m n h in omega (arith, e, l)

enough : (r : Role) (least m : ℕ) → least_before r least ≤ m → (n : ℕ) × (after_role r m ≡ Some n) × (least ≤ n)
enough role.Opens least m l = (suc m, refl, omega (arith, l))
enough role.Closes least zero l = absurd (omega (arith, l))
enough role.Closes least (suc m) l = (m, refl, omega (arith, l))
enough role.Plain least m l = (m, refl, l)
enough role.Binds least m l = (m, refl, l)
enough role.Colon least m l = (m, refl, l)
enough role.Separates least m l = (m, refl, l)

module _ (ts : List Token) (at least : ℕ) where
  -- after EXCEPT itself none is open
  pub within_itself : (t : Token) → slice_get ts at ≡ Some t → (t.kind ≡ k.Except) × (least ≡ 0) → IsWithin ts (suc at) least
  within_itself t here e = (0, omega (arith, e.1), inl ((t, here, e.0), refl))

  -- else what is open before the token decides
  pub within_before : (t : Token) → slice_get ts at ≡ Some t → ((t.kind ≡ k.Except) × (least ≡ 0) → ⊥) → IsWithin ts (suc at) least ↔ IsWithin ts at (least_before (role_of t.kind) least)
  within_before t here other = (λ h. to h.0 h.1 h.2, λ h. let x = enough (role_of t.kind) least h.0 h.1 in (x.0, x.2, inr (h.0, h.2, t, here, x.1)))
    where
      to : (m : ℕ) → least ≤ m → IsUnderExcept ts (suc at) m → IsWithin ts at (least_before (role_of t.kind) least)
      to m l (inl ((u, there, e), z)) = absurd (other (ap (λ x. x.kind) (same_Some t u (sym here ∙ there)) ∙ e, omega (arith, l, z)))
      to m l (inr (n, h, u, there, e)) = (n, needed (role_of t.kind) least n m (ap (λ x. open_after x.kind n) (same_Some t u (sym here ∙ there)) ∙ e) l, h)
