-- Why a text is refused, by its tokens.
use Rattle.std.proofs.Common.{◌≡◌, ℕ, ◌+◌, List, Option, Some, ◌⊎◌, inl, inr, slice_get, codes, true, refl, sym, ap, subst, ◌∙◌}
use Rattle.std.specs.Str.{IsUtf8}
use Rattle.tla_lex.specs.declared.token.Kind.TheVariants as k
use Rattle.tla_lex.specs.declared.token.Place.{Place}
use Rattle.tla_lex.specs.declared.token.Token.{Token}
use Rattle.tla_tree.specs.Words.{word_of}
use Rattle.tla_config.specs.declared.error.DefsCode.{DefsCode}
use Rattle.tla_config.specs.declared.error.DefsCode.TheVariants.{StatementLeftOut, Memory}
use Rattle.tla_config.specs.Private.Gives.{LeftOutIn, LeftOutAt, TooLargeAt, Clear, OnlyBegins}
use Rattle.tla_config.specs.Names.{Name, is_among}
use Rattle.tla_config.specs.Refusals.{Begins, Explains, FollowsStatements, FollowsItems, HasLeftOutWord, HasLeftOutItem, HasTooLargeItem, HasNeither, IsLeftOutWord, IsLeftOutItem, IsTooLargeItem, StandsAt, left_out_words}
use Rattle.tla_config.proofs.Fronts.{one_token}
use Rattle.tla_config.proofs.Words.{left_out_utf8}

-- what is left out, by its word or as an item
abbrev pub IsLeft : List ℕ → Place → Name → Type 0
IsLeft text p word = HasLeftOutWord text p word ⊎ (HasLeftOutItem text p × (word ≡ codes "["))

pub explains_left_out : (text : List ℕ) (c : DefsCode) (p : Option Place) (n : Option Name) (q : Place) (word : Name)
    → ((c ≡ Memory) ⊎ ((c ≡ StatementLeftOut) × (p ≡ Some q) × (n ≡ Some word))) → IsLeft text q word → Explains text c p n
explains_left_out text c p n q word (inl m) why = rw m tt
explains_left_out text c p n q word (inr x) why = rw (x.0, x.1, x.2) why

module _ (text : List ℕ) (ts : List Token) where
  -- its token
  abbrev pub IsLeftOutToken : Token → Type 0
  IsLeftOutToken t = ((t.kind ≡ k.Name) × (is_among (word_of text t) left_out_words ≡ true)) ⊎ (t.kind ≡ k.LeftBracket)

  token_in : (begin at : ℕ) → LeftOutIn text ts begin at → (t : Token) × (slice_get ts at ≡ Some t) × IsLeftOutToken t
  token_in begin at (inl x) = subst (λ n. (t : Token) × (slice_get ts n ≡ Some t) × IsLeftOutToken t) (sym x.1) (x.0.0, x.0.1, inl (x.0.2, x.0.3))
  token_in begin at (inr x) =
      let b = x.1.2.2 in
      subst (λ n. (t : Token) × (slice_get ts n ≡ Some t) × IsLeftOutToken t) (sym x.1.3) (b.0, b.1, inr b.2)

  pub left_out_token : (at : ℕ) → LeftOutAt text ts at → (t : Token) × (slice_get ts at ≡ Some t) × IsLeftOutToken t
  left_out_token at x = token_in x.0 at x.2

  pub token_left_out : (at : ℕ) (t : Token) → LeftOutAt text ts at → slice_get ts at ≡ Some t → IsLeftOutToken t
  token_left_out at t x e =
      let y = left_out_token at x in
      subst (λ u. IsLeftOutToken u) (one_token (slice_get ts at) y.0 t y.1 e) y.2

  pub word_utf8 : (t : Token) → IsLeftOutToken t → (t.kind ≡ k.LeftBracket → ⊥) → IsUtf8 (word_of text t)
  word_utf8 t (inl x) f = left_out_utf8 (word_of text t) x.1
  word_utf8 t (inr b) f = absurd (f b)

  left_in : (from at : ℕ) (t : Token) → Begins text ts → FollowsStatements text ts from → LeftOutIn text ts from at → slice_get ts at ≡ Some t → (t.kind ≡ k.LeftBracket → ⊥) → HasLeftOutWord text t.place (word_of text t)
  left_in from at t b follows (inl x) e f =
      let same = one_token (slice_get ts at) x.0.0 t (subst (λ n. slice_get ts n ≡ Some x.0.0) (sym x.1) x.0.1) e in
      record {
        tokens = ts;
        begins = b;
        at = from;
        follows = follows;
        is = x.0;
        place = ap (λ (u : Token). u.place) same;
        name = ap (λ u. word_of text u) same;
      }
  left_in from at t b follows (inr x) e f =
      let c = x.1.2.2 in
      absurd (f (ap (λ (u : Token). u.kind) (sym (one_token (slice_get ts at) c.0 t (subst (λ n. slice_get ts n ≡ Some c.0) (sym x.1.3) c.1) e)) ∙ c.2))

  pub word_left : (at : ℕ) (t : Token) → Begins text ts → LeftOutAt text ts at → slice_get ts at ≡ Some t → (t.kind ≡ k.LeftBracket → ⊥) → IsLeft text t.place (word_of text t)
  word_left at t b x e f = inl (left_in x.0 at t b x.1 x.2 e f)

  -- an item that is too large, where its token is at a place
  pub too_large : (at : ℕ) (p : Place) → Begins text ts → TooLargeAt text ts at → ((q : Place) → StandsAt ts at q → q ≡ p) → HasTooLargeItem text p
  too_large at p b x place =
      let name = x.2.1.1.0.1.0 in
      record {
        tokens = ts;
        begins = b;
        at = at;
        follows = record { begin = x.0; statements = x.1; constant = x.2.0; items = x.2.1.0.0; spelled = x.2.1.0.1 };
        is = x.2.1.1;
        place = (name.0, name.1, place name.0.place (name.0, name.1, refl));
      }

  -- there is neither
  pub neither_told : OnlyBegins text ts → Clear text ts → HasNeither text
  neither_told only clear = record {
    no_word = λ q word h.
        let e = only h.tokens h.begins in
        clear.no_left h.at (h.at, subst (λ us. FollowsStatements text us h.at) e h.follows, inl (subst (λ us. IsLeftOutWord text us h.at) e h.is, refl));
    no_item = λ q h.
        let e = only h.tokens h.begins in
        let f = subst (λ us. FollowsItems text us h.at) e h.follows in
        clear.no_left (h.at + 2) (f.begin, f.statements, inr (f.constant, (h.at, (f.items, f.spelled), subst (λ us. IsLeftOutItem text us h.at) e h.is, refl)));
    no_value = λ q h.
        let e = only h.tokens h.begins in
        let f = subst (λ us. FollowsItems text us h.at) e h.follows in
        clear.no_large h.at (f.begin, f.statements, (f.constant, ((f.items, f.spelled), subst (λ us. IsTooLargeItem text us h.at) e h.is)));
  }
