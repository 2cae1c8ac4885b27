-- Values of one token, and numbers after a minus sign.
use Rattle.std.proofs.Common.{◌≡◌, ◌<◌, ℕ, ◌+◌, true, false, List, [], ◌∷◌, Some, None, ◌⊎◌, inl, inr, slice_get, length, FitsSigned, refl, sym, ap, subst, ◌∙◌, arith}
use Rattle.std.proofs.lemmas.Grind.{not_there}
use Rattle.std.specs.Int.{w64}
use Rattle.std.specs.Str.{IsUtf8}
use Rattle.tla_lex.specs.StringLoops.{unescaped, string_text}
use Rattle.tla_lex.specs.declared.token.Kind.TheVariants as k
use Rattle.tla_lex.specs.declared.token.Token.{Token}
use Rattle.tla_tree.specs.Words.{word_of}
use Rattle.tla_value.specs.IsValue.{IsValue}
use Rattle.tla_value.specs.Tree.{Tree, int, text, model}
use Rattle.tla_config.specs.declared.refusal.Refusal.{Refusal}
use Rattle.tla_config.specs.declared.refusal.Refusal.TheVariants as refusal
use Rattle.tla_config.specs.Configuration.{Has, SpellsLiteral}
use Rattle.tla_config.specs.Private.Fronts.{kind_at, digits_of}
use Rattle.tla_config.specs.Private.Beyond.{IsBeyond, itself}
use Rattle.tla_config.specs.Private.Gives.{Because, Nowhere, Fails}
use Rattle.tla_config.specs.Private.GivesValues.{IsValueAt, NoValue, WritesNone, AtomBeyond, BeyondIn, IsUnwritten}
use Rattle.tla_config.proofs.Arms.{because_map}
use Rattle.tla_config.specs.Private.Keywords.{keywords, lookup}
use Rattle.tla_config.specs.Literals.{Literal, atom, braces, value_of, number, atom_of}
use Rattle.tla_config.proofs.Fronts.{one_token, kind_found, kind_none, digits_found, digits_is}
use Rattle.tla_config.proofs.Words.{name_word}
use Rattle.tla_config.proofs.Literals.{two_kinds, atom_kind, opens}
use Rattle.tla_config.proofs.Beyond.{NoLiteral, value_within, unwritten}

pub no_bytes : (literal : List ℕ) → length literal < 1 → string_text literal ≡ []
unfolding unescaped
no_bytes [] h = refl
no_bytes (b ∷ bs) h = absurd (omega arith)

same_tree : (u v : Tree) → Some u ≡ Some v → u ≡ v
same_tree u v h = cc

abbrev pub NoText : Refusal → ℕ → List ℕ → Type 0
NoText e item w = (e ≡ refusal.NoMemory) ⊎ ((e ≡ refusal.TooLarge item) × (IsUtf8 w → ⊥))

module _ (source : List ℕ) (ts : List Token) where
  abbrev pub NoAtom : Token → Type 0
  NoAtom t = (v : Tree) → atom_of source t ≡ Some v → IsValue v → ⊥

  -- the token's value is beyond the limits
  pub atom_refused : (t : Token) (u : Tree) → atom_of source t ≡ Some u → (IsValue u → ⊥) → NoAtom t
  atom_refused t u h f v g x = f (subst (λ w. IsValue w) (sym (same_tree u v (sym h ∙ g))) x)

  text_fails : (e : Refusal) (item : ℕ) (w : List ℕ) (P : Type 0) → NoText e item w → ((IsUtf8 w → ⊥) → P) → Fails source ts e P
  text_fails e item w P (inl h) f = rw h tt
  text_fails e item w P (inr h) f = rw h.0 (f h.1)

  pub text_because : (e : Refusal) (item : ℕ) (t : Token) (w : List ℕ) (v : Tree) → atom_of source t ≡ Some v → (IsValue v → ∥ IsUtf8 w ∥₁) → NoText e item w
      → Because e Nowhere (λ n. (n ≡ item) × AtomBeyond source t) (WritesNone source t)
  text_because e item t w v h f (inl m) = rw m tt
  text_because e item t w v h f (inr m) = rw m.0 (refl, (v, h, λ x. not_there (f x) m.1))

  pub string_fails : (e : Refusal) (item : ℕ) (t : Token) (w : List ℕ) → t.kind ≡ k.Text → w ≡ string_text (word_of source t) → NoText e item w → Fails source ts e (NoAtom t)
  string_fails e item t w h p why = text_fails e item w (NoAtom t) why (λ f. atom_refused t (text (string_text (word_of source t))) (rw h refl) (λ x. not_there x (λ y. f (rw p y))))

  pub model_fails : (e : Refusal) (item : ℕ) (t : Token) (w : List ℕ) → atom_of source t ≡ Some (model w) → NoText e item w → Fails source ts e (NoAtom t)
  model_fails e item t w h why = text_fails e item w (NoAtom t) why (λ f. atom_refused t (model w) h (λ x. not_there x f))

  pub digits_is_int : (t : Token) (w : List ℕ) → t.kind ≡ k.Digits → w ≡ word_of source t → atom_of source t ≡ Some (int (number false w))
  digits_is_int t w h p = rw (h, p) refl

  pub string_is : (t : Token) (w : List ℕ) → t.kind ≡ k.Text → w ≡ string_text (word_of source t) → atom_of source t ≡ Some (text w)
  string_is t w h p = rw (h, p) refl

  pub model_is : (t : Token) → t.kind ≡ k.Name → lookup keywords (word_of source t) ≡ None → atom_of source t ≡ Some (model (word_of source t))
  model_is t h n = rw (h, name_word (word_of source t) n) refl

  -- a value of one token
  pub atom_is : (at : ℕ) (t : Token) (v : Tree) → slice_get ts at ≡ Some t → atom_of source t ≡ Some v → IsValue v → IsValueAt source ts v at (at + 1)
  atom_is at t v h a x = record { literal = atom v; spelled = inl (t, h, a, refl); meaning = refl; is_value = x }

  pub no_atom : (room at : ℕ) (t : Token) → slice_get ts at ≡ Some t → kind_at k.LeftBrace (slice_get ts at) ≡ false → kind_at k.Minus (slice_get ts at) ≡ false → NoAtom t → NoValue source ts room at
  no_atom room at t h p q f (atom v) to (inl a) x d = f v (ap (λ u. atom_of source u) (one_token (slice_get ts at) t a.0 h a.1) ∙ a.2) x
  no_atom room at t h p q f (atom v) to (inr a) x d = kind_none source ts k.Minus at refl q a.0
  no_atom room at t h p q f (braces ls) to a x d = kind_none source ts k.LeftBrace at refl p (opens source ts ls at to a)

  -- a number after a minus sign
  only_negated : (at : ℕ) (t : Token) → Has source ts k.Minus at → (l : Literal) (to : ℕ) → SpellsLiteral source ts l at to
      → (u : Token) × (digits_of (slice_get ts (at + 1)) ≡ Some u) × (value_of l ≡ int (number true (word_of source u)))
  only_negated at t m (atom v) to (inl a) = absurd (atom_kind source ts at k.Minus a.0 v (λ s u. refl) m a.1 a.2)
  only_negated at t m (atom v) to (inr a) = (a.1, digits_is (slice_get ts (at + 1)) a.1 a.2 a.3, a.4)
  only_negated at t m (braces ls) to a = absurd (two_kinds source ts at k.Minus k.LeftBrace (λ e. let z : ⊥ = cc in z) m (opens source ts ls at to a))

  pub negated_is : (at : ℕ) (t : Token) (v : Tree) → kind_at k.Minus (slice_get ts at) ≡ true → digits_of (slice_get ts (at + 1)) ≡ Some t → v ≡ int (number true (word_of source t)) → IsValue v
      → IsValueAt source ts v at (at + 2)
  negated_is at t v m h e x =
      let d = digits_found (slice_get ts (at + 1)) t h in
      record { literal = atom v; spelled = inr (kind_found k.Minus (slice_get ts at) m, t, d.0, d.1, e, refl); meaning = refl; is_value = x }

  -- a value of one token, or after a minus sign, beyond the limits
  pub atom_beyond : (room at : ℕ) (t : Token) → slice_get ts at ≡ Some t → AtomBeyond source t → IsBeyond source ts room at
  atom_beyond room at t h b = itself room at (at + 1) (atom b.0) (inl (t, h, b.1, refl)) b.2

  -- a token that writes no value
  pub no_spelled : (at : ℕ) (t : Token) → slice_get ts at ≡ Some t → kind_at k.LeftBrace (slice_get ts at) ≡ false → kind_at k.Minus (slice_get ts at) ≡ false → WritesNone source t → NoLiteral source ts at
  no_spelled at t h p q f (atom v) to (inl a) = let e = one_token (slice_get ts at) t a.0 h a.1 in let n : atom_of source a.0 ≡ None = ap (λ u. atom_of source u) (sym e) ∙ f in let m = a.2 in (let z : ⊥ = cc in z)
  no_spelled at t h p q f (atom v) to (inr a) = kind_none source ts k.Minus at refl q a.0
  no_spelled at t h p q f (braces ls) to a = kind_none source ts k.LeftBrace at refl p (opens source ts ls at to a)

  pub atom_because : (r : Refusal) (item room at : ℕ) (t : Token) → slice_get ts at ≡ Some t → kind_at k.LeftBrace (slice_get ts at) ≡ false → kind_at k.Minus (slice_get ts at) ≡ false
      → Because r Nowhere (λ n. (n ≡ item) × AtomBeyond source t) (WritesNone source t) → Because r Nowhere (BeyondIn source ts item room at) (IsUnwritten source ts room at)
  atom_because r item room at t h p q x = because_map r Nowhere (λ n. (n ≡ item) × AtomBeyond source t) Nowhere (BeyondIn source ts item room at) (WritesNone source t) (IsUnwritten source ts room at)
      (λ n y. y) (λ n y. (y.0, atom_beyond room at t h y.1)) (λ f. unwritten source ts room at (kind_none source ts k.LeftBrace at refl p) (no_spelled at t h p q f)) x

  -- no token is there
  no_token : (at : ℕ) → slice_get ts at ≡ None → NoLiteral source ts at
  no_token at h (atom v) to (inl a) = let e = a.1 in (let z : ⊥ = cc in z)
  no_token at h (atom v) to (inr a) = let e = a.0.1 in (let z : ⊥ = cc in z)
  no_token at h (braces ls) to a = let e = (opens source ts ls at to a).1 in (let z : ⊥ = cc in z)

  pub token_unwritten : (room at : ℕ) → slice_get ts at ≡ None → IsUnwritten source ts room at
  token_unwritten room at h = unwritten source ts room at (λ b. let e = b.1 in (let z : ⊥ = cc in z)) (no_token at h)

  pub negated_beyond : (room at : ℕ) (t : Token) → kind_at k.Minus (slice_get ts at) ≡ true → digits_of (slice_get ts (at + 1)) ≡ Some t → (FitsSigned w64 (number true (word_of source t)) → ⊥) → IsBeyond source ts room at
  negated_beyond room at t m h f =
      let d = digits_found (slice_get ts (at + 1)) t h in
      itself room at (at + 2) (atom (int (number true (word_of source t)))) (inr (kind_found k.Minus (slice_get ts at) m, t, d.0, d.1, refl, refl)) f

  pub negated_none : (at : ℕ) → kind_at k.Minus (slice_get ts at) ≡ true → digits_of (slice_get ts (at + 1)) ≡ None → (room : ℕ) → NoValue source ts room at
  negated_none at m h room l to a x d =
      let k0 = kind_found k.Minus (slice_get ts at) m in
      let n = only_negated at k0.0 k0 l to a in
      let e = n.1 in
      (let z : ⊥ = cc in z)

  pub negated_large : (at : ℕ) (t : Token) → kind_at k.Minus (slice_get ts at) ≡ true → digits_of (slice_get ts (at + 1)) ≡ Some t → (FitsSigned w64 (number true (word_of source t)) → ⊥) → (room : ℕ) → NoValue source ts room at
  negated_large at t m h f room l to a x d =
      let k0 = kind_found k.Minus (slice_get ts at) m in
      let n = only_negated at k0.0 k0 l to a in
      let e = one_token (digits_of (slice_get ts (at + 1))) n.0 t n.1 h in
      let y : IsValue (int (number true (word_of source n.0))) = subst (λ v. IsValue v) n.2 x in
      f (subst (λ u. FitsSigned w64 (number true (word_of source u))) e y)

  minus_no_brace : (at : ℕ) → kind_at k.Minus (slice_get ts at) ≡ true → Has source ts k.LeftBrace at → ⊥
  minus_no_brace at m b = two_kinds source ts at k.Minus k.LeftBrace (λ e. let z : ⊥ = cc in z) (kind_found k.Minus (slice_get ts at) m) b

  pub negated_unwritten : (at : ℕ) → kind_at k.Minus (slice_get ts at) ≡ true → digits_of (slice_get ts (at + 1)) ≡ None → (room : ℕ) → IsUnwritten source ts room at
  negated_unwritten at m h room = unwritten source ts room at (minus_no_brace at m) (λ l to a.
      let k0 = kind_found k.Minus (slice_get ts at) m in
      let n = only_negated at k0.0 k0 l to a in
      let e = n.1 in
      (let z : ⊥ = cc in z))

  pub negated_within : (at to : ℕ) (v : Tree) → kind_at k.Minus (slice_get ts at) ≡ true → IsValueAt source ts v at to → (room : ℕ) → IsBeyond source ts room at → ⊥
  negated_within at to v m found room = value_within source ts room at to v (minus_no_brace at m) found
