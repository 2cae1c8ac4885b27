-- The place of a token that is no word left out.
use Rattle.std.proofs.Common.{◌≡◌, ◌-◌, inl, inr, Bool, true, false, List, [], ◌∷◌, Option, Some, None, length, slice_get, refl, ap, subst, sym, ◌∙◌, ℕ, arith}
use Rattle.std.proofs.lemmas.Option.{slice_get-get_or}
use Rattle.tla_lex.specs.declared.token.Place.{Place}
use Rattle.tla_lex.specs.declared.token.Token.{Token}
use Rattle.tla_grammar.specs.LeftOut.{is_left_out, IsWordLeftOut}
use Rattle.tla_parse.specs.Parsing.{IsAtNoWordLeftOut}

not_left_out : (b : Bool) → (b ≡ true → ⊥) → b ≡ false
not_left_out true f = absurd (f refl)
not_left_out false f = refl

has_last : (v : Token) (vs : List Token) → slice_get (v ∷ vs) (length (v ∷ vs) - 1) ≡ None → ⊥
has_last v vs h =
    let some = slice_get-get_or (v ∷ vs) (length (v ∷ vs) - 1) v (omega arith) in
    let e : None ≡ Some _ = sym h ∙ some in
    (let z : ⊥ = cc in z)

module _ (ts : List Token) (at : ℕ) (p : Place) where
  abbrev Here : Type 0
  Here = (t : Token) → slice_get ts at ≡ Some t → p ≡ t.place

  abbrev Last : Type 0
  Last = slice_get ts at ≡ None → (t : Token) → slice_get ts (length ts - 1) ≡ Some t → p ≡ t.place

  last_by : (us : List Token) (o : Option Token) → us ≡ ts → slice_get us (length us - 1) ≡ o → slice_get ts at ≡ None → Last → IsAtNoWordLeftOut ts (Some p)
  last_by [] o same e gone last = inr (inr (ap (λ us. length us) (sym same)))
  last_by (u ∷ us) None same e gone last = absurd (has_last u us e)
  last_by (u ∷ us) (Some t) same e gone last =
      let there = subst (λ vs. slice_get vs (length vs - 1) ≡ Some t) same e in
      inr (inl (t, there, ap Some (last gone t there)))

  no_word_by : (o : Option Token) → slice_get ts at ≡ o → (IsWordLeftOut ts at → ⊥) → Here → Last → IsAtNoWordLeftOut ts (Some p)
  no_word_by (Some t) e clear here last = inl (at, t, e, ap Some (here t e), not_left_out (is_left_out t.kind) (λ w. clear (t, e, w)))
  no_word_by None e clear here last = last_by ts (slice_get ts (length ts - 1)) refl refl e last

  pub at_no_word : (IsWordLeftOut ts at → ⊥) → Here → Last → IsAtNoWordLeftOut ts (Some p)
  at_no_word clear here last = no_word_by (slice_get ts at) refl clear here last
